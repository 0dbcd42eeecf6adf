-- "Let the bench propose the order" (document 02, 8). Assumes nothing.
use Rattle.std.specs.Prelude.{Bool, cond, ◌&&◌, ◌||◌, List, ℕ, zero, suc, ◌+◌, ◌*◌, ◌/◌, ◌%◌, max, eqb, leb, ltb, get_or, replicate, set}
use Rattle.task_set.specs.Bounded.{all, count, first, implies, tabulate}
use Rattle.plan.specs.declared.Plan.{Plan}
use Rattle.plan.specs.declared.Constraint.{Constraint}
use Rattle.plan.specs.Rules.{most_types, most_units, most_tasks, time_of, predecessors_of, release_of, usable}
use Rattle.plan.specs.Refusals.{no_constraint}
use Rattle.simulation.specs.Simulated.{latest_of}
use Rattle.ranks.specs.Ranks.{ranks_of, ranked}
use Rattle.adoption_theory.specs.declared.Schedule.{Schedule}
use Rattle.adoption_theory.specs.Schedules.{schedule_of, constraint_by}
use Rattle.proposal_theory.specs.declared.Proposal.{Proposal}

-- ---- "Tasks are placed by falling rank, equal ranks by lower number"

-- task u is placed before task t
unfoldable pub before : List ℕ → ℕ → ℕ → Bool
before ranks t u = ltb (get_or ranks t 0) (get_or ranks u 0) || (eqb (get_or ranks u 0) (get_or ranks t 0) && ltb u t)

-- the place of task t: how many are placed before it
unfoldable pub place_of : List ℕ → ℕ → ℕ → ℕ
place_of ranks tasks t = count tasks (before ranks t)

-- the task whose place is k
unfoldable pub task_at : List ℕ → ℕ → ℕ → ℕ
task_at ranks tasks k = first tasks (λ t. eqb (place_of ranks tasks t) k)

-- ---- the unit that a task takes. Unit u of type k has the number 8 k + u, so "types and then units in number order" is by number

abbrev pub most_slots : ℕ
most_slots = most_types * most_units

abbrev pub type_of : ℕ → ℕ
type_of unit = unit / most_units

-- there is such a unit, and task t can use its type
unfoldable pub fits : List ℕ → List ℕ → ℕ → ℕ → Bool
fits units wcet t unit = ltb (unit % most_units) (get_or units (type_of unit) 0) && usable wcet t (type_of unit)

-- the greatest of "its predecessors' finishes and its not-before instant"
unfoldable pub held_until : List ℕ → List ℕ → List ℕ → ℕ → ℕ
held_until predecessors releases finishes t = max (latest_of finishes (predecessors_of predecessors t)) (release_of releases t)

-- "It starts at the greatest of the unit's free instant", and of those
abbrev pub start_on : List ℕ → ℕ → ℕ → ℕ
start_on free held unit = max (get_or free unit 0) held

abbrev pub finish_on : List ℕ → ℕ → List ℕ → ℕ → ℕ → ℕ
finish_on wcet t free held unit = start_on free held unit + time_of wcet t (type_of unit)

-- "the unit with the earliest finish": it fits, and on no other that fits does the task finish earlier
unfoldable pub earliest : List ℕ → List ℕ → ℕ → List ℕ → ℕ → ℕ → Bool
earliest units wcet t free held unit =
    fits units wcet t unit
    && all most_slots (λ other. implies (fits units wcet t other) (leb (finish_on wcet t free held unit) (finish_on wcet t free held other)))

-- "the first found kept"
unfoldable pub unit_of : List ℕ → List ℕ → ℕ → List ℕ → ℕ → ℕ
unit_of units wcet t free held = first most_slots (earliest units wcet t free held)

-- ---- the schedule

-- of each task the type, the start and the finish, 0 until it is placed; of each unit the finish of the last task placed on it
pub record Bench : Type 0 where
  pub types : List ℕ
  pub starts : List ℕ
  pub finishes : List ℕ
  pub free : List ℕ

abbrev pub bench_of : List ℕ → List ℕ → List ℕ → List ℕ → Bench
bench_of types starts finishes free = record { types = types; starts = starts; finishes = finishes; free = free }

-- task t takes a unit
unfoldable pub placed : List ℕ → List ℕ → List ℕ → List ℕ → ℕ → Bench → Bench
placed units wcet predecessors releases t b =
    let held = held_until predecessors releases b.finishes t in
    let unit = unit_of units wcet t b.free held in
    let finish = finish_on wcet t b.free held unit in
    bench_of (set b.types t (type_of unit)) (set b.starts t (start_on b.free held unit)) (set b.finishes t finish)
    (set b.free unit finish)

-- the first n tasks of an order are placed
unfoldable pub bench_after : List ℕ → List ℕ → List ℕ → List ℕ → (ℕ → ℕ) → ℕ → Bench
bench_after units wcet predecessors releases order zero =
    bench_of (replicate most_tasks 0) (replicate most_tasks 0) (replicate most_tasks 0) (replicate most_slots 0)
bench_after units wcet predecessors releases order (suc n) =
    let b = bench_after units wcet predecessors releases order n in
    placed units wcet predecessors releases (order n) b

-- all tasks are placed
unfoldable pub bench_of_plan : Plan → Bench
bench_of_plan p =
    let ranks = ranks_of p in
    bench_after p.units p.wcet p.predecessors p.releases (task_at ranks p.tasks) p.tasks

-- record t of the schedule is of task t
abbrev pub by_task : ℕ → Bench → Schedule
by_task tasks b = schedule_of tasks (tabulate most_tasks (λ t. t)) b.types b.starts b.finishes

unfoldable pub schedule_by : Plan → Schedule
schedule_by p = by_task p.tasks (bench_of_plan p)

-- ---- the answer

abbrev pub proposal_of : ℕ → ℕ → Constraint → Proposal
proposal_of number place constraint = record { number = number; place = place; constraint = constraint }

-- "The constraint comes from this schedule as in Job 5 .. 8, then 23, place 0"
unfoldable pub proposed : Plan → Proposal
proposed p =
    let number = (ranked p).number in
    cond (eqb number 0) (proposal_of 0 0 (constraint_by (schedule_by p))) (proposal_of number 0 no_constraint)
