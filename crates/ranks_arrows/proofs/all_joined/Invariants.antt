-- `ranks_arrows::all_joined` meets its contract. Assumes nothing.
use Prim.Native.Nat.{ℕ}
use Rattle.task_set.proofs.Upto.{Upto}
use Rattle.ranks_arrows.specs.Steps.{joined}
use Rattle.ranks_arrows.proofs.all_joined.Given as goal

abbrev pub invariant-loop-t : goal.invariant-loop-t
invariant-loop-t l = Upto (λ (n : ℕ). joined l.predecessors n l.s) l.tasks l.t l.out
