-- `simulation_waits::latest_finish` meets its contract: what is passed and what is left make the whole. Assumes nothing.
use mathlib.Core.Path.{◌≡◌}
use Prim.Native.Nat.{max, ◌<◌, ◌^◌}
use Rattle.task_set.specs.Sets.{size, width}
use Rattle.simulation_waits.specs.Waits.{latest_of}
use Rattle.simulation_waits.proofs.latest_finish.Given as goal

abbrev pub invariant-loop-left : goal.invariant-loop-left
invariant-loop-left l = (l.left < 2 ^ width) × (max l.latest (latest_of l.finishes l.left) ≡ latest_of l.finishes l.s)

abbrev pub decreases-loop-left : goal.decreases-loop-left
decreases-loop-left l = size l.left
