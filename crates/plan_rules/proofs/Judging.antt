-- The rule of predecessors, from the answers of the functions that test its parts. Assumes nothing.
use mathlib.Core.Path.{◌≡◌}
use mathlib.Core.Bool.{Bool, ◌&&◌, ◌||◌, not}
use mathlib.Core.List.{List}
use Prim.Native.Nat.{ℕ, ◌^◌, ◌<◌}
use lib.Dec.{eqb, ltb}
use Rattle.task_set.specs.Sets.{width, has, below}
use Rattle.task_set.proofs.Members.{below_mask}
use Rattle.plan.specs.Rules.{predecessors_of, predecessors_ok}

pub predecessors_ok_by : (tasks t : ℕ) (predecessors : List ℕ) {s m : ℕ} {h : Bool} → s < 2 ^ width
    → s ≡ predecessors_of predecessors t → m ≡ below s tasks → h ≡ has s t
    → (ltb t tasks && (not h && eqb m s)) || (not (ltb t tasks) && eqb s 0) ≡ predecessors_ok tasks predecessors t
unfolding predecessors_ok
predecessors_ok_by tasks t predecessors {s} l e f g = rw (f, g, below_mask width s tasks l, e)
