-- `live_report::verdicts::report_checked` meets its contract. Assumes nothing.
use mathlib.Core.Path.{◌≡◌, refl, ◌∙◌}
use native.Mathlib.Omega.{arith}
use borrow.Author.Rules.{rules}
use Rattle.std.proofs.Common.{Err}
use Rattle.plan.specs.Refusals.{as_result}
use Rattle.live_report.specs.Steps.{verdict_by}
use Rattle.live_report.proofs.Checking.{none_of_at, overrun, on_time}
use Rattle.live_report.proofs.verdicts.report_checked.Goals as goal

pub returns-then-over : goal.returns-then-over
unfolding verdict_by as_result
returns-then-over c = rw (c.if-over.true, c.refused.ensures) refl

pub returns-in_err-none_of : goal.returns-in_err-none_of
returns-in_err-none_of c =
    let e : c.from_residual.result ≡ Err c.in_err-none_of.field-0.0 = search rules in
    e ∙ overrun _ _ _ _ c.if-over.false c.difference-running.ensures c.difference-overdue.ensures c.difference-idle.ensures
    (none_of_at 16 _ c.none_of.ensures (grind arith)) c.in_err-none_of.was

pub returns : goal.returns
returns c =
    on_time _ _ _ _ c.if-over.false c.difference-running.ensures c.difference-overdue.ensures c.difference-idle.ensures
    (none_of_at 16 _ c.none_of.ensures (grind arith)) c.in_ok-none_of.was c.none_of-2.ensures
