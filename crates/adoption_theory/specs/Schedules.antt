-- Plans scheduled elsewhere (document 02, 5). Assumes nothing.
use Rattle.std.specs.Prelude.{Bool, cond, ◌&&◌, ◌||◌, not, List, ℕ, ◌+◌, eqb, leb, ltb, length, get_or}
use Rattle.task_set.specs.Bounded.{any, count, first, tabulate}
use Rattle.task_set.specs.Sets.{has}
use Rattle.plan.specs.declared.Plan.{Plan}
use Rattle.plan.specs.declared.Constraint.{Constraint}
use Rattle.plan.specs.declared.Verdict.{Verdict}
use Rattle.plan.specs.Rules.{most_tasks, time_of, predecessors_of, release_of, plan_ok}
use Rattle.plan.specs.Refusals.{misplaced, unusable, refused, no_refusal, constraint_of, no_constraint, unless_at}
use Rattle.dispatch_theory.specs.Sums.{greatest}
use Rattle.adoption_theory.specs.declared.Record.{Record}
use Rattle.adoption_theory.specs.declared.Schedule.{Schedule}
use Rattle.adoption_theory.specs.declared.Adoption.{Adoption}

-- ---- "a lent list of up to 64 records of task, type, start and finish"

-- how many records there are, and by column what each of the first 64 says
abbrev pub schedule_of : ℕ → List ℕ → List ℕ → List ℕ → List ℕ → Schedule
schedule_of len tasks types starts finishes =
    record { len = len; tasks = tasks; types = types; starts = starts; finishes = finishes }

abbrev pub no_record : Record
no_record = record { task = 0; unit_type = 0; start = 0; finish = 0 }

-- one field of each record, 0 past the last record
unfoldable pub column : (Record → ℕ) → List Record → List ℕ
column field records = tabulate most_tasks (λ i. field (get_or records i no_record))

unfoldable pub listed : List Record → Schedule
listed records =
    schedule_of (length records) (column (λ r. r.task) records) (column (λ r. r.unit_type) records)
    (column (λ r. r.start) records)
    (column (λ r. r.finish) records)

-- what record i says
abbrev pub task_at : Schedule → ℕ → ℕ
task_at s i = get_or s.tasks i 0

abbrev pub type_at : Schedule → ℕ → ℕ
type_at s i = get_or s.types i 0

abbrev pub start_at : Schedule → ℕ → ℕ
start_at s i = get_or s.starts i 0

abbrev pub finish_at : Schedule → ℕ → ℕ
finish_at s i = get_or s.finishes i 0

-- "the list's greatest finish"
unfoldable pub greatest_finish : Schedule → ℕ
greatest_finish s = greatest s.len (finish_at s)

-- ---- the refusals

-- 21: "a type the task cannot use, or finish is not start plus worst"
unfoldable pub mistimed : ℕ → List ℕ → Schedule → ℕ → Bool
mistimed types wcet s i =
    unusable types wcet s.tasks s.types i
    || not (eqb (finish_at s i) (start_at s i + time_of wcet (task_at s i) (type_at s i)))

-- "A task holds its unit from its start up to, not including, its finish": record j is of type k and holds it at an instant
unfoldable pub holds : Schedule → ℕ → ℕ → ℕ → Bool
holds s k instant j = eqb (type_at s j) k && (leb (start_at s j) instant && ltb instant (finish_at s j))

-- 22: "a start before a predecessor's finish"
unfoldable pub hasty : List ℕ → Schedule → ℕ → Bool
hasty predecessors s i =
    any s.len (λ j. has (predecessors_of predecessors (task_at s i)) (task_at s j) && ltb (start_at s i) (finish_at s j))

-- 22 "covers a start too soon" (document 02, 6), one before the task's not-before instant
unfoldable pub early : List ℕ → Schedule → ℕ → Bool
early releases s i = ltb (start_at s i) (release_of releases (task_at s i))

-- 22: "more tasks hold the record's type at its start than there are units"
unfoldable pub crowded : List ℕ → Schedule → ℕ → Bool
crowded units s i = ltb (get_or units (type_at s i) 0) (count s.len (holds s (type_at s i) (start_at s i)))

unfoldable pub unmeetable : List ℕ → List ℕ → List ℕ → Schedule → ℕ → Bool
unmeetable units predecessors releases s i = hasty predecessors s i || (early releases s i || crowded units s i)

-- "8 first, then each of these over the whole list, place the first faulty record from 0";
-- 20: "the record count is not the number of tasks (place the count), or a task is absent or repeats"
unfoldable pub judged : Plan → Schedule → Verdict
judged p s =
    cond (not (plan_ok p)) (refused 8 0)
    (cond (not (eqb s.len p.tasks)) (refused 20 s.len)
    (unless_at 20 s.len (misplaced p.tasks s.tasks)
    (unless_at 21 s.len (mistimed p.types p.wcet s)
    (unless_at 22 s.len (unmeetable p.units p.predecessors p.releases s)
    no_refusal))))

-- ---- the constraint

-- record j stands before record i: "tasks by start, equal starts by lower number"
unfoldable pub before : Schedule → ℕ → ℕ → Bool
before s i j = ltb (start_at s j) (start_at s i) || (eqb (start_at s j) (start_at s i) && ltb (task_at s j) (task_at s i))

-- the place of record i: how many records stand before it
unfoldable pub place_of : Schedule → ℕ → ℕ
place_of s i = count s.len (before s i)

-- the record whose place is k
unfoldable pub record_at : Schedule → ℕ → ℕ
record_at s k = first s.len (λ i. eqb (place_of s i) k)

-- a column in the order of the places, "types as listed"; unused entries are 0
unfoldable pub in_place : Schedule → List ℕ → List ℕ
in_place s entries = tabulate most_tasks (λ k. cond (ltb k s.len) (get_or entries (record_at s k) 0) 0)

unfoldable pub constraint_by : Schedule → Constraint
constraint_by s = constraint_of s.len (in_place s s.tasks) (in_place s s.types)

-- "An accepted list gives a constraint"
unfoldable pub adopted : Plan → Schedule → Adoption
adopted p s =
    let v = judged p s in
    record { number = v.number; place = v.place; constraint = cond (eqb v.number 0) (constraint_by s) no_constraint }
