-- `table_slack_lines::put_task` meets its contract: a line, or nothing. Assumes nothing.
use mathlib.Core.Path.{refl}
use native.Mathlib.Omega.{arith}
use borrow.Author.Rules.{rules}
use mir.Syntax.{w64}
use mir.ValLaws.{to_z-of_z}
use Rattle.table_slack_lines.proofs.SlackLines.{not_due, due}
use Rattle.table_slack_lines.proofs.put_task.Goals as goal

pub returns-then-not-due : goal.returns-then-not-due
returns-then-not-due c = rw (not_due _ _ _ _ c.deadline_of-d.ensures c.if-not-due.true) (record { bytes = refl; end = omega arith })

pub put_slack-requires : goal.put_slack-requires
put_slack-requires c =
    let e = due _ _ _ _ c.deadline_of-d.ensures c.if-not-due.false c.instant_of.ensures c.parts_of-x.ensures
    (to_z-of_z w64 _ (search rules)) in
    rw e at c.requires.1

pub returns : goal.returns
returns c =
    let e = due _ _ _ _ c.deadline_of-d.ensures c.if-not-due.false c.instant_of.ensures c.parts_of-x.ensures
    (to_z-of_z w64 _ (search rules)) in
    rw e c.put_slack.ensures
