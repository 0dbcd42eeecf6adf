-- `ranks::table::table_of` meets its contract: the ranks of the tasks passed are in the table, which is that of the plan. Assumes nothing.
use mathlib.Core.Path.{◌≡◌}
use Rattle.ranks.proofs.Filling.{KnownBelow}
use Rattle.ranks.proofs.table.table_of.Given as goal

abbrev pub invariant-loop-t : goal.invariant-loop-t
invariant-loop-t l = (l.known.plan.now ≡ l.p) × KnownBelow l.p.wcet l.p.predecessors l.p.tasks l.t l.known.table
