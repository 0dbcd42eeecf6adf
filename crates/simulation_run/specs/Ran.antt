-- The run of a plan under a constraint (document 01, "Running rules"). Assumes nothing.
use Rattle.std.specs.Prelude.{ℕ}
use Rattle.task_set.specs.Bounded.{tabulate}
use Rattle.plan.specs.declared.Plan.{Plan}
use Rattle.plan.specs.declared.Constraint.{Constraint}
use Rattle.plan.specs.Rules.{most_tasks}
use Rattle.runs.specs.Running.{or_zero, ended, response}
use Rattle.simulation_run.specs.declared.Simulation.{Simulation}

-- "all starts, finishes and the response", of the run in which task t takes d t
unfoldable pub ran : Plan → Constraint → (ℕ → ℕ) → Simulation
ran p c d =
    record {
      number = 0;
      place = 0;
      response = response p c d;
      starts = tabulate most_tasks (λ t. or_zero ((ended p c d).start t));
      finishes = tabulate most_tasks (λ t. or_zero ((ended p c d).finish t));
    }
