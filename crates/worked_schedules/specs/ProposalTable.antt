-- Orders that the bench proposes (document 02, 8). Assumes nothing.
use Rattle.std.specs.Prelude.{List, [], ◌∷◌, ◌++◌, ℕ, take, replicate}
use Rattle.plan.specs.declared.Plan.{Plan}
use Rattle.runs.specs.Running.{bound}
use Rattle.adoption_theory.specs.Schedules.{greatest_finish}
use Rattle.ranks.specs.Ranks.{ranks_of, ranked}
use Rattle.proposal_theory.specs.Proposals.{schedule_by, proposed}
use Rattle.worked_examples.specs.PlanA.{plan_a, plan_warm}
use Rattle.worked_examples.specs.Rows.{Row, row}
use Rattle.worked_schedules.specs.Plans.{plan_level, plan_gap, plan_mean, plan_late, plan_ring}
use Rattle.worked_schedules.specs.ScheduleTable.{entries_of}

-- what the bench proposes for a plan of n tasks: number, place and length; the tasks and types; the bound and the schedule's greatest finish
unfoldable pub proposes : ℕ → Plan → List ℕ
proposes n p =
    let a = proposed p in
    let c = a.constraint in
    a.number ∷ a.place ∷ c.len ∷ take n c.order ++ take n c.chosen ++ bound p c ∷ greatest_finish (schedule_by p) ∷ []

-- number, place and length alone
unfoldable pub proposes_not : Plan → List ℕ
proposes_not p = let a = proposed p in a.number ∷ a.place ∷ a.constraint.len ∷ []

-- the starts and the finishes of the schedule, by task number
unfoldable pub scheduled_on : ℕ → Plan → List ℕ
scheduled_on n p = let s = schedule_by p in take n s.starts ++ take n s.finishes

-- proposals (document 02, 8). Plan A: the ranks, and its own timetable. With N 1 4 task 1 is placed second and starts third
unfoldable pub proposal_table : List Row
proposal_table =
    row (take 6 (ranks_of plan_a)) (6720 ∷ 5880 ∷ 5040 ∷ 3360 ∷ 1680 ∷ 0 ∷ [])
    ∷ row (proposes 5 plan_a) (0 ∷ 0 ∷ 5 ∷ 0 ∷ 1 ∷ 2 ∷ 3 ∷ 4 ∷ 0 ∷ 0 ∷ 1 ∷ 1 ∷ 0 ∷ 8 ∷ 8 ∷ [])
    ∷ row (scheduled_on 5 plan_a) (0 ∷ 2 ∷ 2 ∷ 5 ∷ 6 ∷ 2 ∷ 5 ∷ 6 ∷ 8 ∷ 8 ∷ [])
    ∷ row (proposes 5 plan_warm) (0 ∷ 0 ∷ 5 ∷ 0 ∷ 2 ∷ 1 ∷ 3 ∷ 4 ∷ 0 ∷ 1 ∷ 0 ∷ 1 ∷ 0 ∷ 10 ∷ 10 ∷ [])
    ∷ row (scheduled_on 5 plan_warm) (0 ∷ 4 ∷ 2 ∷ 7 ∷ 7 ∷ 2 ∷ 7 ∷ 6 ∷ 10 ∷ 9 ∷ [])
    -- equal ranks by lower number, and the first found kept: both units of type 0, then type 1
    ∷ row (proposes 3 plan_level) (0 ∷ 0 ∷ 3 ∷ 0 ∷ 1 ∷ 2 ∷ 0 ∷ 0 ∷ 1 ∷ 4 ∷ 4 ∷ [])
    -- a gap in a unit stays: task 2 comes after task 1, though the unit is free until 10
    ∷ row (scheduled_on 3 plan_gap) (0 ∷ 10 ∷ 13 ∷ 10 ∷ 13 ∷ 15 ∷ [])
    -- the average is over usable types: task 0 goes before task 1
    ∷ row (take 3 (ranks_of plan_mean) ++ scheduled_on 3 plan_mean) (3360 ∷ 2520 ∷ 840 ∷ 0 ∷ 0 ∷ 3 ∷ 4 ∷ 3 ∷ 4 ∷ [])
    -- task 2 waits for its instant, though both units are free before
    ∷ row (scheduled_on 3 plan_late) (0 ∷ 0 ∷ 6 ∷ 5 ∷ 2 ∷ 7 ∷ [])
    -- 23: a circle of two tasks, of three; 0 to 1, and both to 2, is none, and the greater of two successors' ranks counts. 8 comes
    -- first, and covers an arrow from a task to itself
    ∷ row (proposes_not (plan_ring 1 (2 ∷ 1 ∷ 0 ∷ [])) ++ proposes_not (plan_ring 1 (4 ∷ 1 ∷ 2 ∷ []))) (23 ∷ 0 ∷ 0 ∷ 23 ∷ 0 ∷ 0 ∷ [])
    ∷ row (proposes_not (plan_ring 1 (0 ∷ 1 ∷ 3 ∷ [])) ++ take 3 (ranks_of (plan_ring 1 (0 ∷ 1 ∷ 3 ∷ [])))) (0 ∷ 0 ∷ 3 ∷ 2520 ∷ 1680 ∷ 840 ∷ [])
    ∷ row (proposes_not (plan_ring 0 (2 ∷ 1 ∷ 0 ∷ [])) ++ proposes_not (plan_ring 1 (1 ∷ 0 ∷ 0 ∷ []))) (8 ∷ 0 ∷ 0 ∷ 8 ∷ 0 ∷ 0 ∷ [])
    -- refused, every rank and every entry is 0
    ∷ row ((ranked (plan_ring 1 (2 ∷ 1 ∷ 0 ∷ []))).ranks ++ entries_of (proposed (plan_ring 1 (2 ∷ 1 ∷ 0 ∷ []))).constraint) (replicate 193 0)
    ∷ []
