-- Faults of a record, from the answers of the functions that test their parts. Assumes nothing.
use mathlib.Core.Path.{◌≡◌, ap, ap₂, ◌∙◌}
use mathlib.Core.Bool.{Bool, ◌&&◌, ◌||◌}
use mathlib.Core.List.{List}
use Prim.Native.Nat.{ℕ, ◌<◌, ◌^◌}
use lib.Dec.{ltb}
use lib.ListN.{get_or}
use Rattle.task_set.specs.Bounded.{any, count}
use Rattle.task_set.specs.Sets.{width, has, insert, intersect}
use Rattle.task_set.proofs.Members.{one_meets}
use Rattle.task_set.proofs.Tables.{get_d_tabulate}
use Rattle.plan.specs.Rules.{most_tasks, predecessors_of, release_of}
use Rattle.adoption_theory.specs.declared.Schedule.{Schedule}
use Rattle.adoption_theory.specs.Schedules.{task_at, type_at, start_at, finish_at, holds, hasty, early, crowded, unmeetable}
use Rattle.adoption_starts.specs.Steps.{members_of}

-- record j finishes after the instant, and its task is needed
unfoldable pub delays : ℕ → Schedule → ℕ → ℕ → Bool
delays needed s instant j = has needed (task_at s j) && ltb instant (finish_at s j)

-- a task is needed exactly if its set and that of the needed ones meet
pub delays_by : (needed : ℕ) (s : Schedule) (instant j : ℕ) {members : List ℕ} {b late : Bool} → j < most_tasks → needed < 2 ^ width
    → members ≡ members_of s.tasks → b ≡ intersect (get_or members j 0) needed → late ≡ ltb instant (finish_at s j)
    → b && late ≡ delays needed s instant j
unfolding delays members_of
delays_by needed s instant j {members} l fits e f g = ap₂ ◌&&◌ (f ∙ here) g
  where
    here : intersect (get_or members j 0) needed ≡ has needed (task_at s j)
    here = rw (e, get_d_tabulate most_tasks (λ i. insert 0 (task_at s i)) j 0 l) (one_meets (task_at s j) needed fits)

pub unmeetable_by : (units predecessors releases : List ℕ) (s : Schedule) (i : ℕ) {t k needed release n : ℕ} {b soon : Bool}
    → t ≡ task_at s i → needed ≡ predecessors_of predecessors t → release ≡ release_of releases t → k ≡ type_at s i
    → b ≡ any s.len (delays needed s (start_at s i)) → soon ≡ ltb (start_at s i) release
    → n ≡ count s.len (holds s (type_at s i) (start_at s i))
    → b || (soon || ltb (get_or units k 0) n) ≡ unmeetable units predecessors releases s i
unfolding unmeetable hasty early crowded delays
unmeetable_by units predecessors releases s i d e r h f q g =
    ap₂ ◌||◌ (f ∙ ap (λ (x : ℕ). any s.len (delays x s (start_at s i))) (e ∙ ap (predecessors_of predecessors) d))
    (ap₂ ◌||◌ (q ∙ ap (ltb (start_at s i)) (r ∙ ap (release_of releases) d)) (ap₂ (λ (k : ℕ). ltb (get_or units k 0)) h g))
