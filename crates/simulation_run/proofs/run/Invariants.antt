-- `simulation_run::run` meets its contract: what the arrays hold at each position. Assumes nothing.
use Prim.Native.Nat.{ℕ}
use Rattle.simulation_run.specs.Steps.{Listed}
use Rattle.simulation_run.proofs.Reached.{Reached}
use Rattle.simulation_run.proofs.run.Given as goal

abbrev pub invariant-loop-k : goal.invariant-loop-k
invariant-loop-k l = (d : ℕ → ℕ) → Listed l.p l.times d → Reached l.p l.c d l.k l.last l.past l.response l.starts l.finishes l.free
