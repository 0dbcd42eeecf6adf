-- The answer from the verdict and the constraint, and what it promises. Assumes nothing.
use mathlib.Core.Path.{◌≡◌, sym, ap, ◌∙◌, subst}
use mathlib.Core.Bool.{Bool, false, cond}
use Prim.Native.Nat.{◌≤◌}
use borrow.Author.Tests.{eq-eqb}
use lib.Dec.{eqb}
use Rattle.std.specs.Prelude.{Ok, Err, ⊤}
use Rattle.plan.specs.declared.Plan.{Plan}
use Rattle.plan.specs.declared.Constraint.{Constraint}
use Rattle.plan.specs.declared.Verdict.{Verdict}
use Rattle.plan.specs.Refusals.{no_constraint, no_refusal, verdict, as_result}
use Rattle.plan.specs.Steps.{Positions}
use Rattle.plan.proofs.Refusing.{as_ok, as_err}
use Rattle.runs.specs.Running.{bound}
use Rattle.adoption_theory.specs.declared.Schedule.{Schedule}
use Rattle.adoption_theory.specs.declared.Adoption.{Adoption}
use Rattle.adoption_theory.specs.Schedules.{greatest_finish, judged, constraint_by, adopted}
use Rattle.adoption_theory.proofs.Taken.{Taken, taken, records, judged_taken}
use Rattle.adoption_theory.proofs.Promises.{number_0, in_time}
use Rattle.adoption.specs.Steps.{answer}

module _ (p : Plan) (s : Schedule) where
  -- the constraint of a verdict
  abbrev given : Verdict → Constraint
  given v = cond (eqb v.number 0) (constraint_by s) no_constraint

  answered : {v : Verdict} → v ≡ judged p s → answer v (given v) ≡ adopted p s
  unfolding adopted
  answered e = ap (λ (w : Verdict). answer w (given w)) e

  pub answer_refused : {v : Verdict} → Err v ≡ as_result (judged p s) → answer v no_constraint ≡ adopted p s
  answer_refused {v} e =
      let r = as_err (judged p s) e in
      let off : eqb v.number 0 ≡ false = ap (λ (w : Verdict). eqb w.number 0) r.0 ∙ r.1 in
      ap (answer v) (sym (ap (λ (b : Bool). cond b (constraint_by s) no_constraint) off)) ∙ answered r.0

  module _ {u : ⊤} (e : Ok u ≡ as_result (judged p s)) where
    accepted : Taken p s
    accepted = taken p s (as_ok (judged p s) e)

    pub answer_taken : answer no_refusal (constraint_by s) ≡ adopted p s
    answer_taken = answered (sym (judged_taken accepted))

    -- a schedule that passes has each task once
    pub once_each : Positions s.tasks s.types s.len
    once_each = subst (Positions s.tasks s.types) (sym accepted.whole) (records accepted)

  -- ---- the two promises

  module _ {r : Adoption} (e : r ≡ adopted p s) (n : r.number ≡ 0) where
    zero_judged : (judged p s).number ≡ 0
    unfolding adopted
    zero_judged = sym (ap (λ (x : Adoption). x.number) e) ∙ n

    constraint_is : constraint_by s ≡ r.constraint
    unfolding adopted
    constraint_is =
        sym (ap (λ (x : Adoption). x.constraint) e
        ∙ ap (λ (b : Bool). cond b (constraint_by s) no_constraint) (eq-eqb (judged p s).number 0 zero_judged))

    pub promise_passes : (verdict p r.constraint).number ≡ 0
    promise_passes = subst (λ (c : Constraint). (verdict p c).number ≡ 0) constraint_is (number_0 (taken p s zero_judged))

    pub promise_in_time : bound p r.constraint ≤ greatest_finish s
    promise_in_time = subst (λ (c : Constraint). bound p c ≤ greatest_finish s) constraint_is (in_time (taken p s zero_judged))
