-- `task_set::member_count` meets its contract. Assumes nothing.
use Rattle.task_set.specs.Sets.{size}
use Rattle.task_set.proofs.Members.{ones_count}
use Rattle.task_set.proofs.member_count.Goals as goal

pub returns : goal.returns
unfolding size
returns c = ones_count 64 c.args.s c.ranges.s.fits
