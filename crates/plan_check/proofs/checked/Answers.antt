-- `plan_check::checked` meets its contract. Assumes nothing.
use mathlib.Core.Path.{◌≡◌, refl, sym, ap₂, ◌∙◌}
use mathlib.Core.Bool.{false}
use Prim.Native.Nat.{ℕ}
use native.Mathlib.Omega.{arith}
use borrow.Author.Tests.{ne_eqb}
use lib.Dec.{eqb}
use Rattle.std.specs.Prelude.{Err}
use Rattle.plan.specs.declared.Verdict.{Verdict}
use Rattle.plan.specs.Refusals.{refused, as_result, verdict}
use Rattle.plan.proofs.Refusing.{err_is_result, ok_is_result}
use Rattle.plan.proofs.Verdicts.{refused_by_9, refused_by_10, refused_by_11, refused_by_none}
use Rattle.plan_check.proofs.Planned.{kept, few}
use Rattle.plan_check.proofs.checked.Goals as goal

-- a refusal that is answered with a number and a place equal by value
err_by : {n k m i : ℕ} {r v : Verdict} → r ≡ refused n k → n ≡ m → k ≡ i → eqb m 0 ≡ false → refused m i ≡ v → Err r ≡ as_result v
err_by e f g z h = err_is_result z (e ∙ ap₂ refused f g) h

pub returns-then-not-plan_ok : goal.returns-then-not-plan_ok
unfolding verdict
returns-then-not-plan_ok c =
    err_is_result refl c.refused.ensures (rw (sym c.plan_ok.ensures ∙ c.if-not-plan_ok.true) refl)

pub returns-then-len-p : goal.returns-then-len-p
unfolding verdict
returns-then-len-p c =
    err_is_result refl c.refused-then-len-p.ensures
    (rw (kept _ c.plan_ok.ensures c.if-not-plan_ok.false, ne_eqb _ _ c.if-len-p.true) refl)

pub returns-in-Some : goal.returns-in-Some
returns-in-Some c =
    err_is_result refl c.refused-in-Some.ensures
    (refused_by_9 _ _ (kept _ c.plan_ok.ensures c.if-not-plan_ok.false) c.if-len-p.false
    (sym c.in-Some.is ∙ c.first_misplaced.ensures))

pub returns-in-Some-first_unusable : goal.returns-in-Some-first_unusable
returns-in-Some-first_unusable c =
    err_by c.refused-in-Some-first_unusable.ensures (grind arith) (grind arith) refl
    (refused_by_10 _ _ (kept _ c.plan_ok.ensures c.if-not-plan_ok.false) c.if-len-p.false
    (sym c.in_default.is ∙ c.first_misplaced.ensures) (sym c.in-Some-first_unusable.is ∙ c.first_unusable.ensures))

pub returns-in-Some-first_unmet : goal.returns-in-Some-first_unmet
returns-in-Some-first_unmet c =
    err_is_result refl c.refused-in-Some-first_unmet.ensures
    (refused_by_11 _ _ (kept _ c.plan_ok.ensures c.if-not-plan_ok.false) c.if-len-p.false
    (sym c.in_default.is ∙ c.first_misplaced.ensures) (sym c.in_default-first_unusable.is ∙ c.first_unusable.ensures)
    (sym c.in-Some-first_unmet.is ∙ c.first_unmet.ensures))

pub returns : goal.returns
returns c =
    ok_is_result
    (refused_by_none _ _ (kept _ c.plan_ok.ensures c.if-not-plan_ok.false) c.if-len-p.false
    (sym c.in_default.is ∙ c.first_misplaced.ensures) (sym c.in_default-first_unusable.is ∙ c.first_unusable.ensures)
    (sym c.in_default-first_unmet.is ∙ c.first_unmet.ensures))

pub first_misplaced-requires : goal.first_misplaced-requires
first_misplaced-requires c = few _ c.plan_ok.ensures c.if-not-plan_ok.false

pub first_unusable-requires : goal.first_unusable-requires
first_unusable-requires c = few _ c.plan_ok.ensures c.if-not-plan_ok.false

pub first_unmet-requires : goal.first_unmet-requires
first_unmet-requires c = few _ c.plan_ok.ensures c.if-not-plan_ok.false
