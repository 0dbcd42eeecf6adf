-- `task_set::members_below` meets its contract. Assumes nothing.
use mathlib.Core.Path.{sym}
use native.Mathlib.Nat.{mod-eq_of_lt, lt_of_lt_of_le}
use lib.Bits.{and_mask}
use lib.Pow.{pow_mono, pow_pos}
use Rattle.task_set.specs.Sets.{below}
use Rattle.task_set.proofs.Members.{shifted_one}
use Rattle.task_set.proofs.members_below.Goals as goal

pub returns-then-n-ge-WIDTH : goal.returns-then-n-ge-WIDTH
unfolding below
returns-then-n-ge-WIDTH c = sym (mod-eq_of_lt (lt_of_lt_of_le c.before.ranges.s.fits (pow_mono c.if-n-ge-WIDTH.true)))

pub returns : goal.returns
unfolding below
returns c = rw (shifted_one _ c.if-n-ge-WIDTH.false) (and_mask _ _)

pub overflow_sub-result : goal.overflow_sub-result
overflow_sub-result c = rw (shifted_one _ c.if-n-ge-WIDTH.false) (pow_pos _)
