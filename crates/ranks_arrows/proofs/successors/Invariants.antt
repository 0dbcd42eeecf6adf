-- `ranks_arrows::successors` meets its contract. Assumes nothing.
use Rattle.ranks_arrows.specs.Arrows.{arrow}
use Rattle.ranks_arrows.proofs.Collecting.{Collected}
use Rattle.ranks_arrows.proofs.successors.Given as goal

abbrev pub invariant-loop-u : goal.invariant-loop-u
invariant-loop-u l = Collected l.tasks (arrow l.predecessors l.t) l.u l.s l.bit
