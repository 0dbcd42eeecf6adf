-- `slack::slacks_in` meets its contract. Assumes nothing.
use mathlib.Core.Path.{◌∙◌}
use borrow.Author.Rules.{rules}
use mir.Syntax.{w64}
use mir.ValLaws.{to_z-of_z}
use Rattle.slack.proofs.Answers.{in-refused, in-none, in_some}
use Rattle.slack.proofs.slacks_in.Goals as goal

pub returns-then-s-ne0 : goal.returns-then-s-ne0
returns-then-s-ne0 c = c.no_slacks.ensures ∙ in-refused _ _ c.if-s-ne0.true

pub returns-in_default : goal.returns-in_default
returns-in_default c =
    c.no_slacks-in_default.ensures
    ∙ in-none _ _ c.if-s-ne0.false c.each_slack-slacks.ensures c.tightest_task.ensures c.in_default.is

pub returns : goal.returns
returns c =
    in_some _ _ c.if-s-ne0.false c.each_slack-slacks.ensures c.tightest_task.ensures c.in-Some.is
    (to_z-of_z w64 _ (search rules))
