-- `plan::pair_index` meets its contract. Assumes nothing.
use borrow.Author.Tests.{le-ltb, lt-ltb}
use Rattle.plan.specs.Rules.{pair_place}
use Rattle.plan.proofs.pair_index.Goals as goal

pub returns-then-t-ge-MOST_TASKS : goal.returns-then-t-ge-MOST_TASKS
unfolding pair_place
returns-then-t-ge-MOST_TASKS c = simp (le-ltb _ _ c.if-t-ge-MOST_TASKS.true)

pub returns-then-k-ge-MOST_TYPES : goal.returns-then-k-ge-MOST_TYPES
unfolding pair_place
returns-then-k-ge-MOST_TYPES c = simp (lt-ltb _ _ c.before.if-t-ge-MOST_TASKS.false, le-ltb _ _ c.if-k-ge-MOST_TYPES.true)

pub returns : goal.returns
unfolding pair_place
returns c = simp (lt-ltb _ _ c.before.if-t-ge-MOST_TASKS.false, lt-ltb _ _ c.if-k-ge-MOST_TYPES.false)
