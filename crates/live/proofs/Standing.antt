-- The task and the type at a position of a state's order. Assumes nothing.
use Prim.Native.Nat.{ℕ}
use Rattle.plan.specs.Refusals.{entry_at}
use Rattle.live.specs.declared.State.{State}

-- the task and the type at position j of a state's order
abbrev pub task_at : State → ℕ → ℕ
task_at s j = entry_at s.constraint.order j

abbrev pub type_at : State → ℕ → ℕ
type_at s j = entry_at s.constraint.chosen j
