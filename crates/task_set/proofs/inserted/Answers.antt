-- `task_set::inserted` meets its contract. Assumes nothing.
use borrow.Author.Tests.{le-ltb, lt-ltb}
use Rattle.task_set.specs.Sets.{insert}
use Rattle.task_set.proofs.Members.{shifted_one}
use Rattle.task_set.proofs.inserted.Goals as goal

pub returns-then-t-ge-WIDTH : goal.returns-then-t-ge-WIDTH
unfolding insert
returns-then-t-ge-WIDTH c = simp (le-ltb _ _ c.if-t-ge-WIDTH.true)

pub returns : goal.returns
unfolding insert
returns c = rw (lt-ltb _ _ c.if-t-ge-WIDTH.false, shifted_one _ c.if-t-ge-WIDTH.false)
