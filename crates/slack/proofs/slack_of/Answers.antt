-- `slack::slack_of` meets its contract. Assumes nothing.
use mathlib.Core.Path.{◌∙◌}
use native.Mathlib.Omega.{arith}
use borrow.Author.Rules.{sfits_of}
use mir.Syntax.{w64}
use mir.ValLaws.{to_z-of_z}
use Rattle.slack.proofs.Slack.{slack_none, slack_due}
use Rattle.slack.proofs.slack_of.Goals as goal

pub returns-then-due : goal.returns-then-due
returns-then-due c =
    to_z-of_z w64 _ (sfits_of c.difference.type_inv) ∙ c.difference.ensures
    ∙ slack_due _ _ _ c.deadline_of-d.ensures (λ z. grind arith)

pub returns-else-due : goal.returns-else-due
returns-else-due c = slack_none _ _ _ c.deadline_of-d.ensures (grind arith)
