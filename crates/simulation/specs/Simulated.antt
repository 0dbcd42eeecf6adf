-- The simulation and the bound (document 01, "Running rules"; "When an operation says no", Simulation and bound).
-- Assumes nothing.
use Rattle.std.specs.Prelude.{Bool, cond, not, List, Result, Ok, Err, ℕ, eqb, length}
use Rattle.task_set.specs.Bounded.{tabulate}
use Rattle.plan.specs.declared.Plan.{Plan}
use Rattle.plan.specs.declared.Constraint.{Constraint}
use Rattle.plan.specs.declared.Verdict.{Verdict}
use Rattle.plan.specs.Rules.{most_tasks}
use Rattle.plan.specs.Refusals.{refused, no_refusal, unless_at, first_refusal, verdict}
use Rattle.runs.specs.Running.{worst, allowed}
use Rattle.simulation_run.specs.declared.Simulation.{Simulation}
pub use Rattle.simulation_times.specs.Times.{time_in}
unfoldable pub use Rattle.simulation_run.specs.Ran.{ran}
unfoldable pub use Rattle.simulation_waits.specs.Waits.{latest_of}

-- 18: "a time outside 1 to worst" of the chosen type (document 02, 1), one that the task may not take
unfoldable pub outside : Plan → Constraint → List ℕ → ℕ → Bool
outside p c times t = not (allowed p c t (time_in times t))

-- 17: "the count of times is not the number of tasks, place that count"; 18, "place the lowest such task"
unfoldable pub times_verdict : Plan → Constraint → List ℕ → Verdict
times_verdict p c times =
    cond (not (eqb (length times) p.tasks)) (refused 17 (length times))
    (unless_at 18 p.tasks (outside p c times)
    no_refusal)

-- "8 to 11. The simulation then has 17 .. 18"
unfoldable pub simulation_verdict : Plan → Constraint → List ℕ → Verdict
simulation_verdict p c times = first_refusal (verdict p c) (times_verdict p c times)

-- "Starts, finishes and response come back 0"
unfoldable pub not_run : Verdict → Simulation
not_run v =
    record {
      number = v.number;
      place = v.place;
      response = 0;
      starts = tabulate most_tasks (λ t. 0);
      finishes = tabulate most_tasks (λ t. 0);
    }

-- an answer in the form that C reads
abbrev pub answered : Result Simulation Verdict → Simulation
answered (Ok r) = r
answered (Err v) = not_run v

unfoldable pub simulated : Plan → Constraint → List ℕ → Simulation
simulated p c times =
    let v = simulation_verdict p c times in
    cond (eqb v.number 0) (ran p c (time_in times)) (not_run v)

-- "The bound is the simulation with the worst times of the chosen types": its response
unfoldable pub worst_case : Plan → Constraint → Simulation
worst_case p c = cond (eqb (verdict p c).number 0) (ran p c (worst p c)) (not_run (verdict p c))
