-- `adoption_judge::judge` meets its contract. Assumes nothing.
use mathlib.Core.Path.{◌≡◌, refl, sym, ◌∙◌}
use native.Mathlib.Nat.{le_trans, le_of_eq}
use Rattle.std.proofs.Common.{rules}
use Rattle.std.specs.Prelude.{Err}
use Rattle.plan.proofs.Kept.{few_tasks}
use Rattle.plan.proofs.Refusing.{err_is_result, ok_is_result}
use Rattle.adoption_judge.proofs.Checking.{ordered, ended, says_21, says_22, takes, types_known}
use Rattle.adoption_judge.proofs.judge.Goals as goal

pub returns-in_err-each_once : goal.returns-in_err-each_once
returns-in_err-each_once c =
    let e : c.from_residual.result ≡ Err c.in_err-each_once.field-0.0 = search rules in e ∙ ended _ _ c.in_err-each_once.ensures

-- from here on neither 8 nor 20

pub first_mistimed-requires : goal.first_mistimed-requires
first_mistimed-requires c =
    let o = ordered c.args.p.now c.args.s.now c.in_ok-each_once.ensures in le_trans (le_of_eq o.whole) (few_tasks _ o.kept)

pub returns-in-Some : goal.returns-in-Some
returns-in-Some c =
    let o = ordered c.args.p.now c.args.s.now c.in_ok-each_once.ensures in
    err_is_result refl c.refused.ensures (says_21 _ _ o (sym c.in-Some.is ∙ c.first_mistimed.ensures))

pub first_unmeetable-requires : goal.first_unmeetable-requires
first_unmeetable-requires c =
    let o = ordered c.args.p.now c.args.s.now c.in_ok-each_once.ensures in (
      le_trans (le_of_eq o.whole) (few_tasks _ o.kept),
      types_known _ _ o (sym c.in_default.is ∙ c.first_mistimed.ensures),
    )

pub returns-in-Some-first_unmeetable : goal.returns-in-Some-first_unmeetable
returns-in-Some-first_unmeetable c =
    let o = ordered c.args.p.now c.args.s.now c.in_ok-each_once.ensures in
    err_is_result refl c.refused-in-Some-first_unmeetable.ensures
    (says_22 _ _ o (sym c.in_default.is ∙ c.first_mistimed.ensures)
    (sym c.in-Some-first_unmeetable.is ∙ c.first_unmeetable.ensures))

pub returns : goal.returns
returns c =
    let o = ordered c.args.p.now c.args.s.now c.in_ok-each_once.ensures in
    ok_is_result
    (takes _ _ o (sym c.in_default.is ∙ c.first_mistimed.ensures)
    (sym c.in_default-first_unmeetable.is ∙ c.first_unmeetable.ensures))
