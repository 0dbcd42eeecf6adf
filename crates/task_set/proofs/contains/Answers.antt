-- `task_set::contains` meets its contract. Assumes nothing.
use mathlib.Core.Path.{sym}
use lib.Bits.{and_mask}
use Rattle.task_set.specs.Sets.{has}
use Rattle.task_set.proofs.Members.{has_past}
use Rattle.task_set.proofs.contains.Goals as goal

pub returns : goal.returns
unfolding has
returns c = rw (and_mask _ 1)

pub returns-then-t-ge-WIDTH : goal.returns-then-t-ge-WIDTH
returns-then-t-ge-WIDTH c = sym (has_past 64 _ c.before.ranges.s.fits c.if-t-ge-WIDTH.true)
