-- `adoption_starts::members` meets its contract. Assumes nothing.
use Rattle.std.proofs.Common.{rules}
use Rattle.task_set.proofs.Made.{made}
use Rattle.adoption_starts.specs.Steps.{members_of}
use Rattle.adoption_starts.proofs.members.Goals as goal

pub returns : goal.returns
unfolding members_of
returns c = made _ _ 0 _ _ (λ q i y k. search rules) c.from_fn.ensures.items
