-- `task_set::removed` meets its contract. Assumes nothing.
use borrow.Author.Tests.{le-ltb, lt-ltb}
use Rattle.task_set.specs.Sets.{remove, without}
use Rattle.task_set.proofs.Members.{shifted_one}
use Rattle.task_set.proofs.removed.Goals as goal

pub returns-then-t-ge-WIDTH : goal.returns-then-t-ge-WIDTH
unfolding remove
returns-then-t-ge-WIDTH c = simp (le-ltb _ _ c.if-t-ge-WIDTH.true)

pub returns : goal.returns
unfolding remove without
returns c = rw (lt-ltb _ _ c.if-t-ge-WIDTH.false, shifted_one _ c.if-t-ge-WIDTH.false)
