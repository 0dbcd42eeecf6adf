-- `simulation_waits::free_first` meets its contract: `best` is the unit looked at that is free first. Assumes nothing.
use Prim.Native.Nat.{◌≤◌}
use Rattle.simulation_waits.specs.Waits.{FreeFirst}
use Rattle.simulation_waits.proofs.free_first.Given as goal

abbrev pub invariant-loop-u : goal.invariant-loop-u
invariant-loop-u l = (l.u ≤ l.units) × FreeFirst l.free l.ty l.u l.best
