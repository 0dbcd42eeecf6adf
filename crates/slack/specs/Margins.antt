-- How much is to spare (document 02, 2): a task's slack, which the paper calls its margin. Assumes nothing.
use Rattle.std.specs.Prelude.{Bool, true, false, cond, ◌&&◌, Option, None, Some, List, ℕ, ◌<◌, eqb, ltb, ℤ, pos, nat_abs, ◌-ℤ◌, get_or, replicate, ◌≤ℤ◌}
use Rattle.std.specs.Int.Signed.{lt_z, le_z}
use Rattle.task_set.specs.Bounded.{all, any, first, implies, tabulate}
use Rattle.plan.specs.declared.Plan.{Plan}
use Rattle.plan.specs.declared.Constraint.{Constraint}
use Rattle.plan.specs.Rules.{most_tasks, latest_deadline, last_instant, deadline_of}
use Rattle.simulation_run.specs.declared.Simulation.{Simulation}
use Rattle.simulation.specs.Simulated.{worst_case}
use Rattle.slack.specs.declared.Slacks.{Slacks}
use Rattle.slack.specs.declared.Parts.{Parts}

-- the task has a deadline: "0 means none"
abbrev pub is_due : List ℕ → ℕ → Bool
is_due deadlines t = ltb 0 (deadline_of deadlines t)

-- "the deadline minus the worst finish, below zero where the task is late", "0 for a task without deadline"
unfoldable pub slack_of : List ℕ → List ℕ → ℕ → ℤ
slack_of deadlines finishes t = cond (is_due deadlines t) (pos (deadline_of deadlines t) -ℤ pos (get_or finishes t 0)) (pos 0)

abbrev pub slack_at : List ℤ → ℕ → ℤ
slack_at slacks t = get_or slacks t (pos 0)

-- "the least among tasks with a deadline": task t has it; slacks are by task number
unfoldable pub is_tightest : List ℕ → List ℤ → ℕ → Bool
is_tightest deadlines slacks t =
    is_due deadlines t && all most_tasks (λ u. implies (is_due deadlines u) (le_z (slack_at slacks t) (slack_at slacks u)))

-- "the lowest of these that has it"
unfoldable pub tightest : List ℕ → List ℤ → ℕ
tightest deadlines slacks = first most_tasks (is_tightest deadlines slacks)

-- and its slack, where a task has a deadline
unfoldable pub tightest_task : List ℕ → List ℤ → Option (ℕ × ℤ)
tightest_task deadlines slacks =
    let t = tightest deadlines slacks in
    cond (any most_tasks (is_due deadlines)) (Some (t, slack_at slacks t)) None

-- zeros, and no deadline: where refused, and where there are none
unfoldable pub no_slacks : ℕ → ℕ → Slacks
no_slacks number place =
    record {
      number = number;
      place = place;
      any = false;
      least = pos 0;
      task = 0;
      slacks = replicate most_tasks (pos 0);
    }

-- "each margin .., the least among tasks with a deadline and the lowest of these that has it"
unfoldable pub some_slacks : List ℕ → List ℕ → Slacks
some_slacks deadlines finishes =
    let slacks = tabulate most_tasks (slack_of deadlines finishes) in
    let t = tightest deadlines slacks in
    record { number = 0; place = 0; any = true; least = slack_at slacks t; task = t; slacks = slacks }

-- the answer from a run: its refusal, or that, or "no deadlines" "exactly if there are none"
unfoldable pub slacks_in : Plan → Simulation → Slacks
slacks_in p s =
    let due = any most_tasks (is_due p.deadlines) in
    let taken = cond due (some_slacks p.deadlines s.finishes) (no_slacks 0 0) in
    cond (eqb s.number 0) taken (no_slacks s.number s.place)

-- from the run of worst times: "margins give 8 to 11"
unfoldable pub slacks_of : Plan → Constraint → Slacks
slacks_of p c = slacks_in p (worst_case p c)

-- whether a number is below zero, and the number without its sign
abbrev pub parts_of : ℤ → Parts
parts_of x = record { negative = lt_z x (pos 0); size = nat_abs x }

-- ---- "Margins run from" .. "to 999,999" (document 02, 4), and "may fall to −64,999,999" (document 02, 6)

-- the earliest deadline and the latest finish
abbrev pub least_slack : ℤ
least_slack = pos 1 -ℤ pos last_instant

-- the latest deadline and the earliest finish
abbrev pub greatest_slack : ℤ
greatest_slack = pos latest_deadline -ℤ pos 1

-- every slack lies between them
pub record InRange (slacks : List ℤ) : Type 0 where
  pub low : (t : ℕ) → t < most_tasks → least_slack ≤ℤ slack_at slacks t
  pub high : (t : ℕ) → t < most_tasks → slack_at slacks t ≤ℤ greatest_slack
