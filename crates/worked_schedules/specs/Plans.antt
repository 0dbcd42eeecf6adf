-- Small plans for proposals (document 02, 8). Assumes nothing.
use Rattle.std.specs.Prelude.{List, [], ◌∷◌, ◌++◌, ℕ, replicate}
use Rattle.plan.specs.declared.Plan.{Plan}
use Rattle.plan.specs.Refusals.{plan_of}

-- the times of three tasks on two types
unfoldable pub on_two_types : ℕ → ℕ → ℕ → ℕ → ℕ → ℕ → List ℕ
on_two_types t0 t0' t1 t1' t2 t2' =
    t0 ∷ t0' ∷ replicate 6 0 ++ (t1 ∷ t1' ∷ replicate 6 0 ++ (t2 ∷ t2' ∷ replicate 494 0))

-- three tasks, so many units of both types, the worst times, the predecessors, and the not-before instants
unfoldable pub three_tasks : ℕ → ℕ → List ℕ → List ℕ → List ℕ → Plan
three_tasks a b worst predecessors releases =
    plan_of 2 (a ∷ b ∷ replicate 6 0) 3 worst worst (predecessors ++ replicate 61 0) (replicate 64 0) (releases ++ replicate 61 0)

-- each task takes 4 on both types, of which there are 2 and 1 units
unfoldable pub plan_level : Plan
plan_level = three_tasks 2 1 (on_two_types 4 4 4 4 4 4) (0 ∷ 0 ∷ 0 ∷ []) (0 ∷ 0 ∷ 0 ∷ [])

-- task 1 waits for task 0, which takes 10 on type 1; task 2 takes 2 on type 0
unfoldable pub plan_gap : Plan
plan_gap = three_tasks 1 1 (on_two_types 0 10 3 0 2 0) (0 ∷ 1 ∷ 0 ∷ []) (0 ∷ 0 ∷ 0 ∷ [])

-- task 0 takes 4 on type 0 alone, task 1 takes 3 on both, task 2 takes 1 on both
unfoldable pub plan_mean : Plan
plan_mean = three_tasks 1 1 (on_two_types 4 0 3 3 1 1) (0 ∷ 0 ∷ 0 ∷ []) (0 ∷ 0 ∷ 0 ∷ [])

-- two units of type 0; task 0 takes 5, task 1 takes 2, and task 2, which does not start before 6, takes 1
unfoldable pub plan_late : Plan
plan_late = three_tasks 2 1 (on_two_types 5 0 2 0 1 0) (0 ∷ 0 ∷ 0 ∷ []) (0 ∷ 0 ∷ 6 ∷ [])

-- so many units of type 1, and tasks that take 1 on type 0, with these predecessors
unfoldable pub plan_ring : ℕ → List ℕ → Plan
plan_ring b predecessors = three_tasks 1 b (on_two_types 1 0 1 0 1 0) predecessors (0 ∷ 0 ∷ 0 ∷ [])
