-- Plan A (document 01, "Timetable and program") and the variants of it that "Runs on plan A" names. Assumes nothing.
use Rattle.std.specs.Prelude.{List, [], ◌∷◌, ◌++◌, ℕ, replicate, set}
use Rattle.plan.specs.declared.Plan.{Plan}
use Rattle.plan.specs.declared.Constraint.{Constraint}
use Rattle.plan.specs.Rules.{most_pairs, pair_index}
use Rattle.plan.specs.Refusals.{plan_of, constraint_of}

-- the times of the T lines, in their order
unfoldable pub times : ℕ → ℕ → ℕ → ℕ → ℕ → ℕ → List ℕ
times t0 t1 t2 t3 t3' t4 =
    set (set (set (set (set (set (replicate most_pairs 0) (pair_index 0 0) t0) (pair_index 1 0) t1) (pair_index 2 1) t2)
    (pair_index 3 0) t3) (pair_index 3 1) t3') (pair_index 4 0) t4

-- plan A with so many units of type 1, a worst time of task 4, and deadlines (document 02, 2) and not-before instants (document
-- 02, 6) of its tasks and of number 5, which is absent
unfoldable pub plan_with : ℕ → ℕ → List ℕ → List ℕ → Plan
plan_with units time deadlines releases =
    plan_of 2 (1 ∷ units ∷ replicate 6 0) 5 (times 1 1 2 2 1 1) (times 2 3 4 5 3 time) (0 ∷ 0 ∷ 1 ∷ 2 ∷ 4 ∷ replicate 59 0)
    (deadlines ++ replicate 58 0) (releases ++ replicate 58 0)

abbrev pub none : List ℕ
none = replicate 6 0

-- with one unit, with another worst time, with deadlines, or with not-before instants
unfoldable pub plan_one : Plan
plan_one = plan_with 1 2 none none

unfoldable pub plan_long : ℕ → Plan
plan_long time = plan_with 2 time none none

unfoldable pub plan_due : List ℕ → Plan
plan_due deadlines = plan_with 2 2 deadlines none

unfoldable pub plan_from : List ℕ → Plan
plan_from = plan_with 2 2 none

unfoldable pub plan_a : Plan
plan_a = plan_due none

-- with the line N 1 4: task 1 does not start before 4
unfoldable pub plan_warm : Plan
plan_warm = plan_from (0 ∷ 4 ∷ 0 ∷ 0 ∷ 0 ∷ 0 ∷ [])

-- five entries of task and type
unfoldable pub five_entries : List ℕ → List ℕ → Constraint
five_entries order chosen = constraint_of 5 (order ++ replicate 59 0) (chosen ++ replicate 59 0)

unfoldable pub order_a : Constraint
order_a = five_entries (0 ∷ 1 ∷ 2 ∷ 3 ∷ 4 ∷ []) (0 ∷ 0 ∷ 1 ∷ 1 ∷ 0 ∷ [])

-- P4: task 3 before task 2
unfoldable pub order_b : Constraint
order_b = five_entries (0 ∷ 1 ∷ 3 ∷ 2 ∷ 4 ∷ []) (0 ∷ 0 ∷ 1 ∷ 1 ∷ 0 ∷ [])
