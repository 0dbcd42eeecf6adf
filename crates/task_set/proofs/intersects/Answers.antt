-- `task_set::intersects` meets its contract. Assumes nothing.
use Rattle.task_set.specs.Sets.{intersect}
use Rattle.task_set.proofs.Members.{meet_mask}
use Rattle.task_set.proofs.intersects.Goals as goal

pub returns : goal.returns
unfolding intersect
returns c = meet_mask 64 c.args.a c.args.b c.ranges.a.fits
