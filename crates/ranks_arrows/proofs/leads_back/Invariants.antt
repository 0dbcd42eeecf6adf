-- `ranks_arrows::leads_back` meets its contract: more tasks join at each look but the last. Assumes nothing.
use Prim.Native.Nat.{◌-◌}
use Rattle.task_set.specs.Sets.{width, size}
use Rattle.ranks_arrows.proofs.Joining.{Fair}
use Rattle.ranks_arrows.proofs.leads_back.Given as goal

abbrev pub invariant-loop-s : goal.invariant-loop-s
invariant-loop-s l = Fair l.predecessors l.tasks l.s

abbrev pub decreases-loop-s : goal.decreases-loop-s
decreases-loop-s l = width - size l.s
