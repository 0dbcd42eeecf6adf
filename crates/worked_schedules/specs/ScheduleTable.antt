-- Schedules of plan A that were worked out elsewhere (document 02, 5). Assumes nothing.
use Rattle.std.specs.Prelude.{List, [], ◌∷◌, ◌++◌, ℕ, ◌+◌, take, replicate}
use Rattle.plan.specs.declared.Plan.{Plan}
use Rattle.plan.specs.declared.Constraint.{Constraint}
use Rattle.runs.specs.Running.{bound}
use Rattle.adoption_theory.specs.declared.Record.{Record}
use Rattle.adoption_theory.specs.Schedules.{listed as scheduled, greatest_finish, adopted}
use Rattle.worked_examples.specs.PlanA.{plan_long, plan_a, plan_warm}
use Rattle.worked_examples.specs.Rows.{Row, row}

-- a record of a schedule: task, type, start and finish
abbrev pub rec : ℕ → ℕ → ℕ → ℕ → Record
rec task type start finish = record { task = task; unit_type = type; start = start; finish = finish }

-- what becomes of a list: number, place and length of the constraint
unfoldable pub adopt_on : Plan → List Record → List ℕ
adopt_on p records = let a = adopted p (scheduled records) in a.number ∷ a.place ∷ a.constraint.len ∷ []

unfoldable pub adopt : List Record → List ℕ
adopt = adopt_on plan_a

-- of an accepted one the first six tasks and types too, the bound and the list's greatest finish
unfoldable pub adopt_fully : List Record → List ℕ
adopt_fully records =
    let c = (adopted plan_a (scheduled records)).constraint in
    adopt records ++ take 6 c.order ++ take 6 c.chosen ++ bound plan_a c ∷ greatest_finish (scheduled records) ∷ []

-- the length and every entry of a constraint
abbrev pub entries_of : Constraint → List ℕ
entries_of c = c.len ∷ c.order ++ c.chosen

-- plan A's timetable as a list, with task 4 like this
abbrev pub with_task4 : ℕ → ℕ → ℕ → List Record
with_task4 type start finish = rec 0 0 0 2 ∷ rec 1 0 2 5 ∷ rec 2 1 2 6 ∷ rec 3 1 5 8 ∷ rec 4 type start finish ∷ []

-- a list for the plan with N 1 4, with task 1 from this start on
abbrev pub warm : ℕ → List Record
warm start = rec 0 0 0 2 ∷ rec 1 0 start (start + 3) ∷ rec 2 1 4 8 ∷ rec 3 1 7 10 ∷ rec 4 0 8 10 ∷ []

-- schedules of plan A (document 02, 5): its own timetable, last record first, where task 1 starts at the finish of task 0 on the
-- same unit; one with gaps, whose bound is smaller than its greatest finish; one where task 2 starts before task 1 and does not finish
-- before it; then 20, 21 and 22
unfoldable pub schedule_table : List Row
schedule_table =
    row (adopt_fully (rec 4 0 6 8 ∷ rec 3 1 5 8 ∷ rec 2 1 2 6 ∷ rec 1 0 2 5 ∷ rec 0 0 0 2 ∷ []))
    (0 ∷ 0 ∷ 5 ∷ 0 ∷ 1 ∷ 2 ∷ 3 ∷ 4 ∷ 0 ∷ 0 ∷ 0 ∷ 1 ∷ 1 ∷ 0 ∷ 0 ∷ 8 ∷ 8 ∷ [])
    ∷ row (adopt_fully (rec 0 0 10 12 ∷ rec 1 0 0 3 ∷ rec 2 1 12 16 ∷ rec 3 1 3 6 ∷ rec 4 0 20 22 ∷ []))
    (0 ∷ 0 ∷ 5 ∷ 1 ∷ 3 ∷ 0 ∷ 2 ∷ 4 ∷ 0 ∷ 0 ∷ 1 ∷ 0 ∷ 1 ∷ 0 ∷ 0 ∷ 11 ∷ 22 ∷ [])
    ∷ row (adopt_fully (rec 0 0 0 2 ∷ rec 1 0 3 6 ∷ rec 2 1 2 6 ∷ rec 3 1 6 9 ∷ rec 4 0 6 8 ∷ []))
    (0 ∷ 0 ∷ 5 ∷ 0 ∷ 2 ∷ 1 ∷ 3 ∷ 4 ∷ 0 ∷ 0 ∷ 1 ∷ 0 ∷ 1 ∷ 0 ∷ 0 ∷ 8 ∷ 9 ∷ [])
    -- 20: four records, sixty-five, a task twice, one that is absent
    ∷ row (adopt (take 4 (with_task4 0 6 8)) ++ adopt (replicate 65 (rec 0 0 0 2))) (20 ∷ 4 ∷ 0 ∷ 20 ∷ 65 ∷ 0 ∷ [])
    ∷ row (adopt (rec 0 0 0 2 ∷ rec 1 1 2 5 ∷ rec 2 1 2 6 ∷ rec 0 0 5 7 ∷ rec 4 0 6 9 ∷ [])) (20 ∷ 3 ∷ 0 ∷ [])
    ∷ row (adopt (rec 0 0 0 2 ∷ rec 1 1 2 5 ∷ rec 2 1 2 6 ∷ rec 5 0 5 7 ∷ rec 4 0 6 9 ∷ [])) (20 ∷ 3 ∷ 0 ∷ [])
    -- 21: a type that task 4 cannot use, and one that is absent, where the worst time is 0; a finish one too late, one that wraps around
    ∷ row (adopt (with_task4 1 6 6) ++ adopt (with_task4 2 6 6)) (21 ∷ 4 ∷ 0 ∷ 21 ∷ 4 ∷ 0 ∷ [])
    ∷ row (adopt (with_task4 0 6 9) ++ adopt (with_task4 0 4294967295 1)) (21 ∷ 4 ∷ 0 ∷ 21 ∷ 4 ∷ 0 ∷ [])
    -- 22: task 4 starts before task 2 has finished, and, taken, as late as it can; task 1 starts beside task 0 on the one unit of type 0,
    -- and 21 comes first where task 4 finishes too late besides
    ∷ row (adopt (with_task4 0 5 7) ++ adopt (with_task4 0 4294967293 4294967295)) (22 ∷ 4 ∷ 0 ∷ 0 ∷ 0 ∷ 5 ∷ [])
    ∷ row (adopt (rec 0 0 0 2 ∷ rec 1 0 1 4 ∷ rec 2 1 2 6 ∷ rec 3 1 4 7 ∷ rec 4 0 6 8 ∷ [])) (22 ∷ 1 ∷ 0 ∷ [])
    ∷ row (adopt (rec 0 0 0 2 ∷ rec 1 0 1 4 ∷ rec 2 1 2 6 ∷ rec 3 1 4 7 ∷ rec 4 0 6 9 ∷ [])) (21 ∷ 4 ∷ 0 ∷ [])
    -- 8 comes first
    ∷ row (adopt_on (plan_long 1000001) (with_task4 0 6 8)) (8 ∷ 0 ∷ 0 ∷ [])
    -- with N 1 4: plan A's own timetable, in which task 1 starts too soon, one instant too soon, and at its instant
    ∷ row (adopt_on plan_warm (with_task4 0 6 8)) (22 ∷ 1 ∷ 0 ∷ [])
    ∷ row (adopt_on plan_warm (warm 3) ++ adopt_on plan_warm (warm 4)) (22 ∷ 1 ∷ 0 ∷ 0 ∷ 0 ∷ 5 ∷ [])
    -- refused, every entry is 0
    ∷ row (entries_of (adopted plan_a (scheduled (with_task4 0 5 7))).constraint) (replicate 129 0)
    ∷ []
