-- What a plan must be (document 01, "The plan"). Assumes nothing.
use Rattle.std.specs.Prelude.{Bool, cond, ◌&&◌, ◌||◌, not, List, ℕ, ◌+◌, ◌*◌, eqb, leb, ltb, get_or}
use Rattle.task_set.specs.Bounded.{all, any, implies}
use Rattle.task_set.specs.Sets.{has, width}
use Rattle.plan.specs.declared.Plan.{Plan}

-- ---- the limits

abbrev pub most_types : ℕ
most_types = 8

abbrev pub most_units : ℕ
most_units = 8

abbrev pub most_tasks : ℕ
most_tasks = 64

abbrev pub most_pairs : ℕ
most_pairs = most_tasks * most_types

-- "Times and deadlines go up to 1,000,000 ticks" (document 02, 4)
abbrev pub longest_time : ℕ
longest_time = 1000000

abbrev pub latest_deadline : ℕ
latest_deadline = 1000000

-- "instant from 0 to 1,000,000" (document 02, 6)
abbrev pub latest_release : ℕ
latest_release = 1000000

-- "65,000,000" (document 02, 6), and no run is longer: from the latest not-before instant on every task one after the other,
-- each with the longest time
abbrev pub last_instant : ℕ
last_instant = latest_release + most_tasks * longest_time

abbrev pub between : ℕ → ℕ → ℕ → Bool
between a x b = leb a x && leb x b

-- ---- what a plan keeps

-- "512 pairs of best and worst times, one for each task number 0 to 63 with each type 0 to 7, task by task"
abbrev pub pair_index : ℕ → ℕ → ℕ
pair_index t k = t * most_types + k

-- the time of task t on type k, from the best or the worst times; a number past the last task or type has none
unfoldable pub time_of : List ℕ → ℕ → ℕ → ℕ
time_of times t k = cond (ltb t most_tasks && ltb k most_types) (get_or times (pair_index t k) 0) 0

-- where the pair of task t and type k lies, and the number of pairs where there is none
unfoldable pub pair_place : ℕ → ℕ → ℕ
pair_place t k = cond (ltb t most_tasks && ltb k most_types) (pair_index t k) most_pairs

-- "its predecessors as a set"; a number past the last task has none
unfoldable pub predecessors_of : List ℕ → ℕ → ℕ
predecessors_of predecessors t = cond (ltb t most_tasks) (get_or predecessors t 0) 0

-- the instant of task t, from one for each task, 0 for none; a number past the last task has none
unfoldable pub instant_of : List ℕ → ℕ → ℕ
instant_of instants t = cond (ltb t most_tasks) (get_or instants t 0) 0

-- its deadline (document 02, 2)
abbrev pub deadline_of : List ℕ → ℕ → ℕ
deadline_of = instant_of

-- its not-before instant, "the earliest instant at which the task may start; without one it is 0" (document 02, 6)
abbrev pub release_of : List ℕ → ℕ → ℕ
release_of = instant_of

-- the task can use the type: the pair is not 0 and 0
unfoldable pub usable : List ℕ → ℕ → ℕ → Bool
usable wcet t k = ltb 0 (time_of wcet t k)

-- ---- the rules, one for each thing that a plan keeps

-- "1 to 8 unit types", "1 to 64 tasks"
unfoldable pub counts_ok : ℕ → ℕ → Bool
counts_ok types tasks = between 1 types most_types && between 1 tasks most_tasks

-- "each with 1 to 8 alike units", "counts of absent types 0"
unfoldable pub units_ok : ℕ → List ℕ → ℕ → Bool
units_ok types units k =
    let n = get_or units k 0 in
    let present = ltb k types in
    (present && between 1 n most_units) || (not present && eqb n 0)

-- "A pair is 0 and 0 where the task cannot use the type; otherwise 1 ≤ best ≤ worst", which is at most the longest time;
-- "Pairs of absent tasks or types are 0 and 0"
unfoldable pub pair_ok : Bool → ℕ → ℕ → Bool
pair_ok present best worst =
    (eqb best 0 && eqb worst 0) || (present && (leb 1 best && (leb best worst && leb worst longest_time)))

unfoldable pub pairs_ok : ℕ → ℕ → List ℕ → List ℕ → ℕ → Bool
pairs_ok types tasks bcet wcet t =
    all most_types (λ k. pair_ok (ltb t tasks && ltb k types) (time_of bcet t k) (time_of wcet t k))

-- "Each task of the plan has at least one usable type"
unfoldable pub some_type_ok : ℕ → List ℕ → ℕ → Bool
some_type_ok tasks wcet t = implies (ltb t tasks) (any most_types (usable wcet t))

-- "No task precedes itself, and no set names an absent task; absent tasks have the empty set"
unfoldable pub predecessors_ok : ℕ → List ℕ → ℕ → Bool
predecessors_ok tasks predecessors t =
    let s = predecessors_of predecessors t in
    let present = ltb t tasks in
    (present && (not (has s t) && all width (λ u. implies (has s u) (ltb u tasks)))) || (not present && eqb s 0)

-- the rules of one task number, present or absent
unfoldable pub task_ok : ℕ → ℕ → List ℕ → List ℕ → List ℕ → ℕ → Bool
task_ok types tasks bcet wcet predecessors t =
    pairs_ok types tasks bcet wcet t && (some_type_ok tasks wcet t && predecessors_ok tasks predecessors t)

-- "8 covers a deadline out of range or of an absent task, where 0 means none" (document 02, 2), and not-before instants as well
-- ("8 covers them": document 02, 6)
unfoldable pub instant_ok : ℕ → ℕ → List ℕ → ℕ → Bool
instant_ok tasks latest instants t =
    let i = instant_of instants t in
    eqb i 0 || (ltb t tasks && leb i latest)

-- the plan breaks no rule
unfoldable pub plan_ok : Plan → Bool
plan_ok p =
    counts_ok p.types p.tasks
    && (all most_types (units_ok p.types p.units)
    && (all most_tasks (task_ok p.types p.tasks p.bcet p.wcet p.predecessors)
    && (all most_tasks (instant_ok p.tasks latest_deadline p.deadlines)
    && all most_tasks (instant_ok p.tasks latest_release p.releases))))
