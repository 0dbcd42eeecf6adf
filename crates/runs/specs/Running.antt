-- The running rules (document 01, "Running rules"), by task number. Assumes nothing.
use Rattle.std.specs.Prelude.{Bool, true, false, cond, ◌&&◌, not, ◌≡◌, List, [], ◌∷◌, ℕ, zero, suc, ◌+◌, ◌<◌, eqb, leb, ltb, get_or}
use Rattle.std.proofs.Math.Option.{Option, none, some}
use Rattle.task_set.specs.Bounded.{all, count, implies, tabulate}
use Rattle.task_set.specs.Sets.{width, has}
use Rattle.plan.specs.declared.Plan.{Plan}
use Rattle.plan.specs.declared.Constraint.{Constraint}
use Rattle.plan.specs.Rules.{between, time_of, predecessors_of, release_of}
use Rattle.plan.specs.Refusals.{entry_at}
use Rattle.dispatch_theory.specs.Sums.{sum, greatest}

-- ---- the constraint: "the execution order and the one type that each task may use"

pub record Entry : Type 0 where
  pub task : ℕ
  pub type : ℕ

-- the entries, in order
unfoldable pub entries : Constraint → List Entry
entries c = tabulate c.len (λ i. record { task = entry_at c.order i; type = entry_at c.chosen i })

unfoldable pub type_in : List Entry → ℕ → ℕ
type_in [] t = 0
type_in (e ∷ rest) t = cond (eqb e.task t) e.type (type_in rest t)

-- the chosen type of a task
unfoldable pub type_of : Constraint → ℕ → ℕ
type_of c t = type_in (entries c) t

-- the worst time of a task on its chosen type
unfoldable pub worst : Plan → Constraint → ℕ → ℕ
worst p c t = time_of p.wcet t (type_of c t)

-- the times that a task may take: "all times from 1 to worst" (document 02, 1)
unfoldable pub allowed : Plan → Constraint → ℕ → ℕ → Bool
allowed p c t x = between 1 x (worst p c t)

abbrev pub Allowed : Plan → Constraint → (ℕ → ℕ) → Type 0
Allowed p c d = (t : ℕ) → t < p.tasks → allowed p c t (d t) ≡ true

-- ---- the notes of a run: the instant, and each task's start and finish instant once it has one

pub record Notes : Type 0 where
  pub instant : ℕ
  pub start : ℕ → Option ℕ
  pub finish : ℕ → Option ℕ

abbrev pub given : Option ℕ → Bool
given none = false
given (some x) = true

abbrev pub or_zero : Option ℕ → ℕ
or_zero none = 0
or_zero (some x) = x

abbrev pub has_started : Notes → ℕ → Bool
has_started n t = given (n.start t)

abbrev pub has_finished : Notes → ℕ → Bool
has_finished n t = given (n.finish t)

abbrev pub is_running : Notes → ℕ → Bool
is_running n t = has_started n t && not (has_finished n t)

-- ---- the walk

-- "all its predecessors are finished"
unfoldable pub cleared : Plan → Notes → ℕ → Bool
cleared p n t = all width (λ u. implies (has (predecessors_of p.predecessors t) u) (has_finished n u))

-- its not-before instant has come
unfoldable pub released : Plan → Notes → ℕ → Bool
released p n t = leb (release_of p.releases t) n.instant

-- how many "running tasks use" a type
unfoldable pub busy : Constraint → Notes → ℕ → ℕ
busy c n k = count width (λ t. is_running n t && eqb (type_of c t) k)

-- "It starts if all its predecessors are finished and fewer running tasks use its chosen type than the type has units";
-- "The walk also stops at a task whose instant has not come" (document 02, 6)
unfoldable pub may_start : Plan → Constraint → Notes → Entry → Bool
may_start p c n e =
    cleared p n e.task && (released p n e.task && ltb (busy c n e.type) (get_or p.units e.type 0))

-- the task starts at the instant
abbrev pub begin : Notes → ℕ → Notes
begin n t = record { instant = n.instant; start = λ u. cond (eqb t u) (some n.instant) (n.start u); finish = n.finish }

-- "The walk looks at the next unstarted task of the order. It starts if .. ; then the walk looks at the next.
-- At the first task that may not start, the walk stops."
unfoldable pub dispatch : Plan → Constraint → List Entry → Notes → Notes
dispatch p c [] n = n
dispatch p c (e ∷ rest) n =
    let passed = dispatch p c rest n in
    let begun = dispatch p c rest (begin n e.task) in
    cond (has_started n e.task) passed (cond (may_start p c n e) begun n)

-- ---- an instant

-- the instant moves on by one; the running tasks that are finishing are finished, "and their units are free"
abbrev pub advance : (ℕ → Bool) → Notes → Notes
advance finishing n =
    record {
      instant = suc n.instant;
      start = n.start;
      finish = λ t. cond (is_running n t && finishing t) (some (suc n.instant)) (n.finish t);
    }

-- "first the tasks whose time is up are finished ..; then the walk"
unfoldable pub step : Plan → Constraint → (ℕ → Bool) → Notes → Notes
step p c finishing n = dispatch p c (entries c) (advance finishing n)

-- "At instant 0 nothing has started"
abbrev pub blank : Notes
blank = record { instant = 0; start = λ t. none; finish = λ t. none }

unfoldable pub opening : Plan → Constraint → Notes
opening p c = dispatch p c (entries c) blank

-- ---- the run in which each task t takes the time d t

-- "a task with start s and time d finishes at instant s + d"
abbrev pub time_up : (ℕ → ℕ) → Notes → ℕ → Bool
time_up d n t = eqb (or_zero (n.start t) + d t) (suc n.instant)

-- the notes of the run after the walk of instant i
unfoldable pub timed : Plan → Constraint → (ℕ → ℕ) → ℕ → Notes
timed p c d zero = opening p c
timed p c d (suc i) = let n = timed p c d i in step p c (time_up d n) n

-- "it has ended, or is over, once every task is finished"
unfoldable pub over : Plan → Notes → Bool
over p n = all p.tasks (has_finished n)

-- the greatest not-before instant of a plan
unfoldable pub greatest_release : Plan → ℕ
greatest_release p = greatest p.tasks (release_of p.releases)

-- every run is over by then: "the greatest such instant plus the sum" (document 02, 6) of the times
unfoldable pub horizon : Plan → (ℕ → ℕ) → ℕ
horizon p d = greatest_release p + sum p.tasks d

-- the notes of the run when it is over
unfoldable pub ended : Plan → Constraint → (ℕ → ℕ) → Notes
ended p c d = timed p c d (horizon p d)

-- "its response is its greatest finish"
unfoldable pub response : Plan → Constraint → (ℕ → ℕ) → ℕ
response p c d = greatest p.tasks (λ t. or_zero ((ended p c d).finish t))

-- "The bound is the simulation with the worst times of the chosen types"
unfoldable pub bound : Plan → Constraint → ℕ
bound p c = response p c (worst p c)
