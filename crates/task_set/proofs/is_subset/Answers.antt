-- `task_set::is_subset` meets its contract. Assumes nothing.
use Rattle.task_set.specs.Sets.{subset}
use Rattle.task_set.proofs.Members.{subset_mask}
use Rattle.task_set.proofs.is_subset.Goals as goal

pub returns : goal.returns
unfolding subset
returns c = subset_mask 64 c.args.a c.args.b c.ranges.a.fits
