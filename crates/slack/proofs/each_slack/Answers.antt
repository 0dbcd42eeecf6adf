-- `slack::each_slack` meets its contract. Assumes nothing.
use Rattle.std.proofs.Common.{rules}
use Rattle.std.specs.Prelude.{pos}
use Rattle.task_set.proofs.Made.{made}
use Rattle.slack.proofs.each_slack.Goals as goal

pub returns : goal.returns
returns c = made _ _ (pos 0) _ _ (λ q i y k. search rules) c.from_fn.ensures.items
