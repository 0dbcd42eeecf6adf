-- What the inner functions of the run compute. No promise of a public function cites it. Assumes nothing.
use Rattle.std.specs.Prelude.{◌≡◌, List, ℕ, ◌≤◌, ◌<◌, length}
use Rattle.plan.specs.declared.Plan.{Plan}
use Rattle.plan.specs.Rules.{longest_time}
use Rattle.plan.specs.declared.Constraint.{Constraint}
use Rattle.plan.specs.Refusals.{verdict}
use Rattle.simulation_times.specs.Times.{time_in}
use Rattle.simulation_run.specs.declared.Simulation.{Simulation}
use Rattle.simulation_run.specs.Ran.{ran}

-- the check takes the plan and the constraint, and the times are there and in range
pub record Runnable (p : Plan) (c : Constraint) (times : List ℕ) : Type 0 where
  pub checked : (verdict p c).number ≡ 0
  pub enough : p.tasks ≤ length times
  pub some : (t : ℕ) → t < p.tasks → 1 ≤ time_in times t
  pub short : (t : ℕ) → t < p.tasks → time_in times t ≤ longest_time

-- d are the times listed
abbrev pub Listed : Plan → List ℕ → (ℕ → ℕ) → Type 0
Listed p times d = (t : ℕ) → t < p.tasks → time_in times t ≡ d t

-- r is the run with the times listed
abbrev pub RunOf : Plan → Constraint → List ℕ → Simulation → Type 0
RunOf p c times r = (d : ℕ → ℕ) → Listed p times d → r ≡ ran p c d
