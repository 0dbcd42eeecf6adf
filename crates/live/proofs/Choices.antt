-- What the sets of tasks say of a task of an accepted order: its own position decides. Assumes nothing.
use mathlib.Core.Path.{◌≡◌, refl, sym, ap, ◌∙◌}
use mathlib.Core.Bool.{Bool, true, ◌&&◌, and-true, and-false}
use Prim.Native.Nat.{ℕ, suc, ◌+◌, ◌≤◌, ◌<◌}
use native.Mathlib.Nat.{lt_of_lt_of_le}
use native.Mathlib.Numerals.{add-one}
use native.Mathlib.Omega.{arith}
use borrow.Author.Tests.{eqb-true, eq-eqb}
use lib.Bits.{bit_and}
use lib.Dec.{eqb, leb}
use lib.ListN.{get_or}
use Rattle.task_set.specs.Bounded.{any}
use Rattle.task_set.specs.Sets.{width, has, size}
use Rattle.task_set.proofs.Truth.{by_test, same, and_left, and_right, and_both}
use Rattle.task_set.proofs.Bounded.{any_elim, any_intro, count_cong}
use Rattle.task_set.proofs.Members.{has_and}
use Rattle.task_set.proofs.Tables.{get_d_tabulate}
use Rattle.plan.specs.Rules.{most_types}
use Rattle.plan.proofs.Accepted.{Accepted}
use Rattle.runs.specs.Running.{or_zero, type_of, is_running, busy, worst}
use Rattle.runs.proofs.Positions.{type_entry, worst_entry}
use Rattle.live_marks.specs.Steps.{tasks_at, reached}
use Rattle.live_marks.proofs.Standing.{has_tasks}
use Rattle.live.specs.declared.State.{State}
use Rattle.live.specs.States.{is_started, notes_of}
use Rattle.live.specs.Soundness.{start_in}
use Rattle.live.specs.Steps.{running_of, users_of, marks_in}
use Rattle.live.proofs.Standing.{task_at, type_at}
use Rattle.live.proofs.StateBack.{started_notes, running_notes}

module _ (s : State) (a : Accepted s.plan s.constraint) (few : s.started ≤ s.plan.tasks) where
  -- the worst time of a task on its chosen type
  abbrev wcet : ℕ → ℕ
  wcet = worst s.plan s.constraint

  -- of the task at position j, a set of the first n tasks says what that position passes
  has_own : (n : ℕ) (q : ℕ → Bool) (j : ℕ) → n ≤ s.plan.tasks → j < n
      → has (tasks_at s.constraint.order n q) (task_at s j) ≡ q j
  has_own n q j m l =
      has_tasks s.constraint.order n q (task_at s j) (omega (arith, a.task j (lt_of_lt_of_le l m), a.few_tasks))
      ∙ same (any n here) (q j) forth (λ e. any_intro n here j l (and_both e (eq-eqb (task_at s j) _ refl)))
    where
      here : ℕ → Bool
      here i = q i && eqb (task_at s i) (task_at s j)

      forth : any n here ≡ true → q j ≡ true
      forth e =
          let x = any_elim n here e in
          let f = eqb-true _ _ (and_right (q x.0) _ x.2) in
          rw (a.once x.0 j (lt_of_lt_of_le x.1 m) (lt_of_lt_of_le l m) f) at (and_left (q x.0) _ x.2)

  module _ (t : ℕ) (r : is_running (notes_of s) t ≡ true) where
    running_started : is_started s t ≡ true
    running_started = sym (started_notes s t) ∙ and_left _ _ r

    -- a running task stands at one of the first positions
    running_position : (j : ℕ) × (j < s.started) × (task_at s j ≡ t)
    unfolding is_started
    running_position =
        let x = any_elim s.started (λ j. eqb (task_at s j) t) running_started in (x.0, x.1, eqb-true _ _ x.2)

    pub running_low : t < width
    running_low =
        let x = running_position in rw (← x.2) (omega (arith, a.task x.0 (lt_of_lt_of_le x.1 few), a.few_tasks))

    -- whether its worst time has come at the instant i
    own_time : (i : ℕ)
        → has (reached s.plan.wcet s.starts s.constraint.order s.constraint.chosen s.started i) t
        ≡ leb (or_zero ((notes_of s).start t) + wcet t) i
    own_time i =
        let x = running_position in
        rw (running_started, ← x.2)
        (has_own s.started _ x.0 few x.1
        ∙ ap (λ (z : ℕ). leb (start_in s (task_at s x.0) + z) i) (sym (worst_entry a x.0 (lt_of_lt_of_le x.1 few))))

    pub spent_own : has (marks_in s).spent t ≡ leb (start_in s t + wcet t) s.instant
    spent_own = rw running_started at (own_time s.instant)

    pub due_own : has (marks_in s).due t ≡ leb (or_zero ((notes_of s).start t) + wcet t) (suc s.instant)
    due_own = rw (← add-one s.instant) (own_time (s.instant + 1))

  -- the running users of a type, by the notes and by the sets
  pub busy_size : (k : ℕ) → k < most_types
      → busy s.constraint (notes_of s) k ≡ size (bit_and (get_or (users_of s) k 0) (running_of s))
  unfolding busy size
  busy_size k low = count_cong width _ (has (bit_and users (running_of s))) uses
    where
      users : ℕ
      users = get_or (users_of s) k 0

      uses : (t : ℕ) → t < width
          → is_running (notes_of s) t && eqb (type_of s.constraint t) k ≡ has (bit_and users (running_of s)) t
      uses t l =
          rw (has_and t users (running_of s), running_notes s t l)
          (by_test (is_running (notes_of s) t)
          (λ e. let x = running_position t e in
          let m : x.0 < s.constraint.len = omega (arith, a.whole, x.1) in
          rw (e, and-true, get_d_tabulate {A = ℕ} most_types _ k 0 low, ← x.2)
          (ap (λ (y : ℕ). eqb y k) (type_entry a x.0 (omega (arith, a.whole)))
          ∙ sym (has_own s.constraint.len (λ i. eqb (type_at s i) k) x.0 (omega (arith, a.whole)) m)))
          (λ e. rw (e, and-false)))
