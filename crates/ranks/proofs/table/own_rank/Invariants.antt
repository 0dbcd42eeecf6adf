-- `ranks::table::own_rank` meets its contract: the types passed are counted and their times summed. Assumes nothing.
use Rattle.ranks.proofs.Summing.{Summed}
use Rattle.ranks.proofs.table.own_rank.Given as goal

abbrev pub invariant-loop-k : goal.invariant-loop-k
invariant-loop-k l = Summed l.wcet l.t l.k l.types l.total
