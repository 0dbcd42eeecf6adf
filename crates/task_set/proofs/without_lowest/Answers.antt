-- `task_set::without_lowest` meets its contract. Assumes nothing.
use Rattle.task_set.specs.Bounded.{first}
use Rattle.task_set.specs.Sets.{has, remove, lowest}
use Rattle.task_set.proofs.Members.{pred_mask}
use Rattle.task_set.proofs.without_lowest.Goals as goal

pub returns-then-s-eq0 : goal.returns-then-s-eq0
unfolding has remove lowest first
returns-then-s-eq0 c = rw c.if-s-eq0.true

pub returns : goal.returns
returns c = pred_mask _ c.before.ranges.s.fits c.if-s-eq0.false
