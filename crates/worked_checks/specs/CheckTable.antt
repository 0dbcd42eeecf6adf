-- What the check says to plans and orders (document 01, "The plan", and "When an operation says no", Check). Assumes nothing.
use Rattle.std.specs.Prelude.{Bool, true, false, cond, List, [], ◌∷◌, ◌++◌, map, ℕ, zero, suc, replicate, set}
use Rattle.task_set.specs.Bounded.{tabulate}
use Rattle.plan.specs.Rules.{most_pairs, pair_index, time_of, counts_ok, units_ok, pair_ok, pairs_ok, predecessors_ok, instant_ok}
use Rattle.plan.specs.Refusals.{plan_of, constraint_of, verdict}
use Rattle.worked_examples.specs.PlanA.{plan_a, five_entries, order_a}
use Rattle.worked_examples.specs.Rows.{Row, row}
use Rattle.worked_examples.specs.Table.{check}

-- ---- a plan of one type and one task, with one thing changed; the number that the check gives, 8 or 0

abbrev pub zeros : List ℕ
zeros = replicate 64 0

-- of task 0, and of number 1, which is absent
abbrev pub first : ℕ → ℕ → List ℕ
first x absent = x ∷ absent ∷ replicate 62 0

-- times of 1 on type 0 for the tasks below n
unfoldable pub ones : ℕ → List ℕ
ones zero = replicate most_pairs 0
ones (suc t) = set (ones t) (pair_index t 0) 1

abbrev pub one : List ℕ
one = 1 ∷ replicate 7 0

-- so many types, units, best and worst times, predecessors, deadlines and not-before instants
unfoldable pub eight : ℕ → List ℕ → List ℕ → List ℕ → List ℕ → List ℕ → List ℕ → ℕ
eight types units bcet wcet predecessors deadlines releases =
    (verdict (plan_of types units 1 bcet wcet predecessors deadlines releases) (constraint_of 1 zeros zeros)).number

-- so many tasks, of which the first n take 1 on the one type, in the order of their numbers
unfoldable pub many : ℕ → ℕ → List ℕ
many tasks n = check (plan_of 1 one tasks (ones n) (ones n) zeros zeros zeros) (constraint_of n (tabulate 64 (λ i. i)) zeros)

-- ---- one rule at one number: 1 where it holds

abbrev pub holds : Bool → ℕ
holds b = cond b 1 0

-- so many units of type k, of two types
unfoldable pub counted : ℕ → ℕ → ℕ
counted k n = holds (units_ok 2 (set (replicate 8 0) k n) k)

-- the predecessors of task t, of two tasks
unfoldable pub needs : ℕ → ℕ → ℕ
needs t s = holds (predecessors_ok 2 (set zeros t s) t)

-- the instant of task t, of two tasks, up to so late
unfoldable pub named : ℕ → ℕ → ℕ → ℕ
named latest t i = holds (instant_ok 2 latest (set zeros t i) t)

-- the pair of task t and type k, of two tasks and two types
unfoldable pub paired : ℕ → ℕ → ℕ
paired t k = holds (pairs_ok 2 2 (set (ones 1) (pair_index t k) 1) (set (ones 1) (pair_index t k) 1) t)

-- ---- the rows

-- 8, for each thing that a plan keeps
unfoldable pub plan_table : List Row
plan_table =
    -- types and units, tasks: 1 to 8, 1 to 64
    row (eight 1 one (ones 1) (ones 1) zeros zeros zeros ∷ eight 8 (replicate 8 1) (ones 1) (ones 1) zeros zeros zeros ∷ []) (0 ∷ 0 ∷ [])
    ∷ row (eight 9 (replicate 8 1) (ones 1) (ones 1) zeros zeros zeros ∷ eight 1 (1 ∷ one) (ones 1) (ones 1) zeros zeros zeros ∷ []) (8 ∷ 8 ∷ [])
    ∷ row (many 0 0 ++ many 64 64 ++ many 65 64) (8 ∷ 0 ∷ 0 ∷ 0 ∷ 8 ∷ 0 ∷ [])
    ∷ row (map (λ n. holds (counts_ok n 1)) (0 ∷ 1 ∷ 8 ∷ 9 ∷ []) ++ map (λ n. holds (counts_ok 1 n)) (0 ∷ 1 ∷ 64 ∷ 65 ∷ [])) (0 ∷ 1 ∷ 1 ∷ 0 ∷ 0 ∷ 1 ∷ 1 ∷ 0 ∷ [])
    ∷ row (map (counted 1) (0 ∷ 1 ∷ 8 ∷ 9 ∷ []) ++ map (counted 2) (0 ∷ 1 ∷ [])) (0 ∷ 1 ∷ 1 ∷ 0 ∷ 1 ∷ 0 ∷ [])
    -- times: a pair that breaks its rule, no usable type
    ∷ row (eight 1 one (ones 0) (ones 1) zeros zeros zeros ∷ eight 1 one (ones 0) (ones 0) zeros zeros zeros ∷ []) (8 ∷ 8 ∷ [])
    ∷ row (map (λ w. holds (pair_ok true 0 w)) (0 ∷ 1 ∷ []) ++ map (λ w. holds (pair_ok true 1 w)) (0 ∷ 1 ∷ 65536 ∷ 1000000 ∷ 1000001 ∷ []))
    (1 ∷ 0 ∷ 0 ∷ 1 ∷ 1 ∷ 1 ∷ 0 ∷ [])
    ∷ row (map (λ b. holds (pair_ok true b 1000000)) (2 ∷ 1000000 ∷ 1000001 ∷ []) ++ map (λ x. holds (pair_ok false x x)) (0 ∷ 1 ∷ [])) (1 ∷ 1 ∷ 0 ∷ 1 ∷ 0 ∷ [])
    -- the pairs lie task by task; a number past the last type or task has no time
    ∷ row (pair_index 0 7 ∷ pair_index 1 0 ∷ pair_index 63 7 ∷ time_of (replicate 512 5) 63 7 ∷ time_of (replicate 512 5) 0 8 ∷ time_of (replicate 512 5) 64 0 ∷ []) (7 ∷ 8 ∷ 511 ∷ 5 ∷ 0 ∷ 0 ∷ [])
    -- pairs of task 1 and type 1, of type 2 and of task 2, which are absent
    ∷ row (paired 1 1 ∷ paired 1 2 ∷ paired 2 0 ∷ paired 63 7 ∷ []) (1 ∷ 0 ∷ 0 ∷ 0 ∷ [])
    -- no task precedes itself, no set names an absent task, and an absent task has the empty set
    ∷ row (eight 1 one (ones 1) (ones 1) (first 1 0) zeros zeros ∷ eight 1 one (ones 1) (ones 1) (first 0 1) zeros zeros ∷ []) (8 ∷ 8 ∷ [])
    ∷ row (map (needs 1) (0 ∷ 1 ∷ 2 ∷ 4 ∷ 9223372036854775808 ∷ []) ++ map (needs 2) (0 ∷ 1 ∷ [])) (1 ∷ 1 ∷ 0 ∷ 0 ∷ 0 ∷ 1 ∷ 0 ∷ [])
    -- deadlines and not-before instants: none, or up to the latest; of an absent task none
    ∷ row (eight 1 one (ones 1) (ones 1) zeros (first 1000000 0) (first 1000000 0) ∷ eight 1 one (ones 1) (ones 1) zeros (first 0 1) zeros ∷ []) (0 ∷ 8 ∷ [])
    ∷ row (eight 1 one (ones 1) (ones 1) zeros (first 1000001 0) zeros ∷ eight 1 one (ones 1) (ones 1) zeros zeros (first 0 1) ∷ []) (8 ∷ 8 ∷ [])
    ∷ row (eight 1 one (ones 1) (ones 1) zeros zeros (first 1000001 0) ∷ []) (8 ∷ [])
    ∷ row (map (named 5 1) (0 ∷ 1 ∷ 5 ∷ 6 ∷ []) ++ map (named 5 2) (0 ∷ 1 ∷ [])) (1 ∷ 1 ∷ 1 ∷ 0 ∷ 1 ∷ 0 ∷ [])
    ∷ []

-- plan A with these five tasks and types
unfoldable pub ordered : List ℕ → List ℕ → List ℕ
ordered order chosen = check plan_a (five_entries order chosen)

-- plan A's order with another length
unfoldable pub length : ℕ → List ℕ
length n = check plan_a (constraint_of n order_a.order order_a.chosen)

-- 9 at the length, 9 at the first task that is absent or repeats, 10, 11; each over the whole order before the next. Entries from the
-- length on are ignored
unfoldable pub order_table : List Row
order_table =
    row (length 4 ++ length 5 ++ length 6 ++ length 64) (9 ∷ 4 ∷ 0 ∷ 0 ∷ 9 ∷ 6 ∷ 9 ∷ 64 ∷ [])
    ∷ row (ordered (0 ∷ 5 ∷ 2 ∷ 3 ∷ 6 ∷ []) (0 ∷ 0 ∷ 1 ∷ 1 ∷ 0 ∷ []) ++ ordered (0 ∷ 1 ∷ 0 ∷ 1 ∷ 4 ∷ []) (0 ∷ 0 ∷ 0 ∷ 0 ∷ 0 ∷ [])) (9 ∷ 1 ∷ 9 ∷ 2 ∷ [])
    -- task 3 can use both types; task 2 cannot use type 0, and no task type 2, which is absent
    ∷ row (ordered (0 ∷ 1 ∷ 2 ∷ 3 ∷ 4 ∷ []) (0 ∷ 0 ∷ 1 ∷ 0 ∷ 0 ∷ []) ++ ordered (0 ∷ 1 ∷ 2 ∷ 3 ∷ 4 ∷ []) (0 ∷ 0 ∷ 0 ∷ 1 ∷ 1 ∷ [])) (0 ∷ 0 ∷ 10 ∷ 2 ∷ [])
    ∷ row (ordered (0 ∷ 1 ∷ 2 ∷ 3 ∷ 4 ∷ []) (0 ∷ 0 ∷ 1 ∷ 2 ∷ 0 ∷ []) ++ ordered (0 ∷ 1 ∷ 2 ∷ 3 ∷ 4 ∷ []) (0 ∷ 0 ∷ 1 ∷ 1 ∷ 8 ∷ [])) (10 ∷ 3 ∷ 10 ∷ 4 ∷ [])
    ∷ row (ordered (0 ∷ 1 ∷ 4 ∷ 2 ∷ 3 ∷ []) (0 ∷ 0 ∷ 0 ∷ 1 ∷ 1 ∷ []) ++ ordered (0 ∷ 3 ∷ 1 ∷ 4 ∷ 2 ∷ []) (0 ∷ 1 ∷ 0 ∷ 0 ∷ 1 ∷ [])) (11 ∷ 2 ∷ 11 ∷ 1 ∷ [])
    -- 10 at the first and 9 at the last position is 9; 11 at the first and 10 at the last is 10; 8 comes first
    ∷ row (ordered (0 ∷ 1 ∷ 2 ∷ 3 ∷ 3 ∷ []) (1 ∷ 0 ∷ 1 ∷ 1 ∷ 1 ∷ []) ++ ordered (2 ∷ 0 ∷ 1 ∷ 3 ∷ 4 ∷ []) (1 ∷ 0 ∷ 0 ∷ 1 ∷ 1 ∷ [])) (9 ∷ 4 ∷ 10 ∷ 4 ∷ [])
    ∷ row (check (plan_of 1 one 1 (ones 0) (ones 0) zeros zeros zeros) order_a) (8 ∷ 0 ∷ [])
    ∷ row (check plan_a (constraint_of 5 (0 ∷ 1 ∷ 2 ∷ 3 ∷ 4 ∷ replicate 59 4) (0 ∷ 0 ∷ 1 ∷ 1 ∷ 0 ∷ replicate 59 9))) (0 ∷ 0 ∷ [])
    ∷ []
