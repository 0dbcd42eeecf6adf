-- `table_slacks::lengths::task_length` meets its contract. Assumes nothing.
use mathlib.Core.Path.{sym, ap, ◌∙◌}
use native.Mathlib.Omega.{arith}
use borrow.Author.Rules.{rules}
use lib.ListN.{length}
use mir.Syntax.{w64}
use mir.ValLaws.{to_z-of_z}
use Rattle.table_slack_lines.proofs.SlackLines.{not_due, due}
use Rattle.table_slacks.proofs.lengths.task_length.Goals as goal

pub returns-then-d-eq0 : goal.returns-then-d-eq0
returns-then-d-eq0 c = (omega arith, sym (ap length (not_due _ _ _ _ c.deadline_of-d.ensures c.if-d-eq0.true)))

pub returns : goal.returns
returns c =
    let e = due _ _ _ _ c.deadline_of-d.ensures c.if-d-eq0.false c.instant_of.ensures c.parts_of-x.ensures
    (to_z-of_z w64 _ (search rules)) in
    (c.slack_length.ensures.1, c.slack_length.ensures.0 ∙ sym (ap length e))
