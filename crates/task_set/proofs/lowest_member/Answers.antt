-- `task_set::lowest_member` meets its contract. Assumes nothing.
use Rattle.task_set.specs.Sets.{lowest}
use Rattle.task_set.proofs.Members.{trailing_first}
use Rattle.task_set.proofs.lowest_member.Goals as goal

pub returns : goal.returns
unfolding lowest
returns c = trailing_first 64 c.args.s
