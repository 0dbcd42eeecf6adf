-- A tidy state is the state that stands for its notes. Assumes nothing.
use mathlib.Core.Path.{◌≡◌, refl, sym, ap, ◌∙◌, fun_ext}
use mathlib.Core.Bool.{Bool, true, false, cond}
use mathlib.Core.List.{List}
use mathlib.Core.Option.{none, some}
use Prim.Native.Nat.{ℕ, ◌^◌, ◌<◌}
use native.Mathlib.Nat.{le_refl, lt_of_lt_of_le}
use native.Mathlib.Omega.{arith}
use borrow.Author.Tests.{ltb-true, ltb-false, lt-ltb, ne_eqb}
use lib.Dec.{eqb, ltb}
use lib.ListN.{get_or, length, get_or-eq_default}
use Rattle.task_set.specs.Bounded.{all, any, count}
use Rattle.task_set.specs.Sets.{width, has, set_of}
use Rattle.task_set.proofs.Truth.{by_test}
use Rattle.task_set.proofs.Bounded.{any_none, count_cong}
use Rattle.task_set.proofs.Cover.{counted}
use Rattle.task_set.proofs.Members.{has_set_of, has_without, without_small, set_of_small, set_ext}
use Rattle.plan.specs.Rules.{most_tasks}
use Rattle.plan.proofs.Accepted.{Accepted, accepted}
use Rattle.dispatch_theory.proofs.Reorder.{count_upto}
use Rattle.runs.specs.Running.{over, or_zero, has_started, has_finished, is_running}
use Rattle.runs.proofs.Closed.{given_once}
use Rattle.live_marks.specs.Steps.{first_tasks}
use Rattle.live_marks.proofs.Standing.{has_tasks, tasks_small}
use Rattle.live_report.proofs.Stamps.{table_list}
use Rattle.live.specs.declared.State.{State}
use Rattle.live.specs.States.{is_started, notes_of, state_of}
use Rattle.live.specs.Steps.{Tidy, running_of}
use Rattle.live.proofs.Standing.{task_at}

-- what is not there reads as the 0 that stands in its place
or_zero_lem : (b : Bool) (x : ℕ) → (b ≡ false → x ≡ 0) → or_zero (cond b (some x) none) ≡ x
or_zero_lem true x h = refl
or_zero_lem false x h = sym (h refl)

-- past the arrays everything is 0
pub past_zero : (l : List ℕ) (t : ℕ) → length l ≡ most_tasks → (t < width → get_or l t 0 ≡ 0) → get_or l t 0 ≡ 0
past_zero l t e f =
    by_test (ltb t width) (λ q. f (ltb-true t width q)) (λ q. get_or-eq_default l 0 (omega (arith, ltb-false t width q)))

module _ (s : State) where
  pub started_notes : (t : ℕ) → has_started (notes_of s) t ≡ is_started s t
  started_notes t = given_once (is_started s t) (get_or s.starts t 0)

  pub finished_notes : (t : ℕ) → has_finished (notes_of s) t ≡ has s.finished t
  finished_notes t = given_once (has s.finished t) (get_or s.finishes t 0)

  -- the running tasks
  pub running_notes : (t : ℕ) → t < width → has (running_of s) t ≡ is_running (notes_of s) t
  unfolding is_started
  running_notes t l =
      has_without (first_tasks s.constraint.order s.started) s.finished t
      ∙ rw (has_tasks s.constraint.order s.started (λ j. true) t l, started_notes t, finished_notes t) refl

  pub running_small : running_of s < 2 ^ width
  running_small = without_small width _ s.finished (tasks_small s.constraint.order s.started (λ j. true))

  pub over_notes : over s.plan (notes_of s) ≡ all s.plan.tasks (has s.finished)
  unfolding over
  over_notes = ap (all s.plan.tasks) (fun_ext finished_notes)

module _ (s : State) (y : Tidy s) where
  pub taken : Accepted s.plan s.constraint
  taken = accepted s.plan s.constraint y.checked

  -- no task stands twice in the order
  new : (i : ℕ) → i < s.plan.tasks → any i (λ j. eqb (task_at s j) (task_at s i)) ≡ false
  new i l = any_none i _ (λ j m. ne_eqb _ _ (λ e. omega (arith, taken.once j i (omega arith) l e)))

  -- as many tasks have started as the state counts
  started_count : count width (has_started (notes_of s)) ≡ s.started
  unfolding is_started
  started_count =
      count_cong width (has_started (notes_of s)) (is_started s) (λ t l. started_notes s t)
      ∙ count_upto s.plan.tasks width (is_started s) taken.few_tasks
      (λ t l m. any_none s.started _
      (λ j k. ne_eqb (task_at s j) t (λ e. omega (arith, taken.task j (lt_of_lt_of_le k y.few)))))
      ∙ counted s.plan.tasks (task_at s) taken.task new s.started y.few

  finished_set : set_of width (has_finished (notes_of s)) ≡ s.finished
  finished_set =
      set_ext width _ s.finished (set_of_small width _ (le_refl width)) y.finished_small
      (λ t l. has_set_of width _ t (le_refl width) ∙ rw (lt-ltb t width l) (finished_notes s t))

  pub state_back : state_of s.plan s.constraint (notes_of s) ≡ s
  unfolding state_of
  state_back =
      rw (
        started_count,
        finished_set,
        table_list (λ t. or_zero ((notes_of s).start t)) s.starts y.starts_long
            (λ t. or_zero_lem (is_started s t) (get_or s.starts t 0) (y.starts_zero t)),
        table_list (λ t. or_zero ((notes_of s).finish t)) s.finishes y.finishes_long
            (λ t. or_zero_lem (has s.finished t) (get_or s.finishes t 0) (y.finishes_zero t)),
      ) refl
