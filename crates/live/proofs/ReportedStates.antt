-- A sound state at the next instant, with running tasks reported: its notes, and that it is tidy. Assumes nothing.
use mathlib.Core.Path.{◌≡◌, refl, sym, ◌∙◌}
use mathlib.Core.Bool.{true, false, cond, ◌&&◌, ◌||◌, and-false, or-true, or-false}
use mathlib.Core.List.{List}
use mathlib.Core.Logic.{⊎_elim}
use mathlib.Core.Option.{none, some}
use Prim.Native.Nat.{ℕ, ◌+◌, ◌^◌, ◌≤◌, ◌<◌}
use native.Mathlib.Numerals.{add-one}
use borrow.Author.Tests.{ltb-true, ltb-false, leb-true, eqb-true, not-false}
use lib.Bits.{bit_or, or_lt}
use lib.Dec.{eqb, ltb}
use lib.ListN.{get_or, length}
use Rattle.task_set.specs.Bounded.{all, tabulate}
use Rattle.task_set.specs.Sets.{width, has, without}
use Rattle.task_set.proofs.Truth.{by_test, clash, and_left, and_right, or_cases, or_left_off, or_right_off, implies_elim}
use Rattle.task_set.proofs.Bounded.{all_elim}
use Rattle.task_set.proofs.Members.{has_or, has_past}
use Rattle.task_set.proofs.Tables.{length_tabulate, get_d_tabulate}
use Rattle.plan.specs.Rules.{most_types, most_tasks, last_instant}
use Rattle.plan.specs.Refusals.{verdict}
use Rattle.runs.specs.Running.{is_running, advance}
use Rattle.runs.specs.Journal.{idle}
use Rattle.runs.proofs.Closed.{notes_ext}
use Rattle.live_marks.specs.Steps.{first_tasks}
use Rattle.live_report.specs.Steps.{stamp_at}
use Rattle.live.specs.declared.State.{State}
use Rattle.live.specs.States.{is_started, notes_of}
use Rattle.live.specs.Soundness.{checked, started_fits, finished_started, start_came, start_released, finish_came, unused_zero}
use Rattle.live.specs.Soundness.{units_enough, instant_low, task_sound, is_sound}
use Rattle.live.specs.Steps.{users_of, state_from, Tidy, Walkable}
use Rattle.live.proofs.StateBack.{past_zero, started_notes}

-- the state at the next instant, with the reported tasks finished and these finishes
abbrev pub next_state : State → ℕ → List ℕ → State
next_state s report finishes =
    state_from s.plan s.constraint (s.instant + 1) s.started (bit_or s.finished report) s.starts finishes

-- the same with the finishes that the report tells
abbrev pub reported_state : State → ℕ → State
reported_state s report = next_state s report (tabulate most_tasks (stamp_at s.finishes report (s.instant + 1)))

-- a state's words and arrays are as wide as their types
pub record Shaped (s : State) : Type 0 where
  pub finished_small : s.finished < 2 ^ width
  pub starts_long : length s.starts ≡ most_tasks
  pub finishes_long : length s.finishes ≡ most_tasks

-- ---- what a sound state has

module _ (s : State) (sound : is_sound s ≡ true) where
  pub sound_checked : (verdict s.plan s.constraint).number ≡ 0
  unfolding is_sound checked
  sound_checked = eqb-true _ 0 (and_left (checked s) _ sound)

  after_checked : started_fits s && (all width (task_sound s) && (all most_types (units_enough s) && instant_low s)) ≡ true
  unfolding is_sound
  after_checked = and_right (checked s) _ sound

  pub sound_few : s.started ≤ s.plan.tasks
  unfolding started_fits
  sound_few = leb-true s.started s.plan.tasks (and_left (started_fits s) _ after_checked)

  after_few : all width (task_sound s) && (all most_types (units_enough s) && instant_low s) ≡ true
  after_few = and_right (started_fits s) _ after_checked

  pub sound_instant : s.instant ≤ last_instant
  unfolding instant_low
  sound_instant =
      leb-true s.instant last_instant
      (and_left _ _ (and_right (all most_types (units_enough s)) (instant_low s) (and_right (all width (task_sound s)) _ after_few)))

  task : (t : ℕ) → t < width → task_sound s t ≡ true
  task = all_elim width (task_sound s) (and_left (all width (task_sound s)) _ after_few)

-- a member is a task number
member_low : (x t : ℕ) → x < 2 ^ width → has x t ≡ true → t < width
member_low x t l e = by_test (ltb t width) (ltb-true t width) (λ f. absurd (clash e (has_past width t l (ltb-false t width f))))

pub sound_tidy : (s : State) → Shaped s → is_sound s ≡ true → Tidy s
unfolding task_sound finished_started unused_zero
sound_tidy s h sound =
    record {
      checked = sound_checked s sound;
      few = sound_few s sound;
      finished_started_lem = λ t e.
          implies_elim (has s.finished t) (is_started s t)
          (and_left (finished_started s t) _ (task s sound t (member_low s.finished t h.finished_small e))) e;
      starts_zero = λ t e. past_zero s.starts t h.starts_long
          (λ l. eqb-true _ 0 (rw e at (and_left (is_started s t || eqb (get_or s.starts t 0) 0) _ (unused t l))));
      finishes_zero = λ t e. past_zero s.finishes t h.finishes_long
          (λ l. eqb-true _ 0 (rw e at (and_right (is_started s t || eqb (get_or s.starts t 0) 0) _ (unused t l))));
      finished_small = h.finished_small;
      starts_long = h.starts_long;
      finishes_long = h.finishes_long;
    }
  where
    unused : (t : ℕ) → t < width → unused_zero s t ≡ true
    unused t l =
        and_left (unused_zero s t) _
        (and_right (finish_came s t) _
        (and_right (start_released s t) _ (and_right (start_came s t) _ (and_right (finished_started s t) _ (task s sound t l)))))

-- ---- running tasks are reported

module _ (s : State) (y : Tidy s) (report : ℕ) (small : report < 2 ^ width)
    (none_idle : (t : ℕ) → t < width → idle (notes_of s) report t ≡ false) where
  reported_runs : (t : ℕ) → has report t ≡ true → is_running (notes_of s) t ≡ true
  unfolding idle
  reported_runs t e = not-false _ (rw e at (none_idle t (member_low report t small e)))

  -- the finish that the next state has for a task
  stamp : (t : ℕ) → t < width
      → get_or (reported_state s report).finishes t 0 ≡ cond (has report t) (s.instant + 1) (get_or s.finishes t 0)
  unfolding stamp_at
  stamp t l = get_d_tabulate most_tasks _ t 0 l

  pub reported_notes : notes_of (reported_state s report) ≡ advance (has report) (notes_of s)
  unfolding is_started
  reported_notes =
      notes_ext (add-one s.instant) (λ t. refl)
      (λ t. rw (has_or t s.finished report)
      (by_test (has report t)
      (λ e. rw (stamp t (member_low report t small e), reported_runs t e, e, or-true, add-one s.instant) refl)
      (λ e. rw (e, and-false (is_running (notes_of s) t), or-false (has s.finished t)) (other t e))))
    where
      other : (t : ℕ) → has report t ≡ false
          → cond (has s.finished t) (some (get_or (reported_state s report).finishes t 0)) none ≡ (notes_of s).finish t
      other t e =
          by_test (has s.finished t)
          (λ f. rw (f, stamp t (member_low s.finished t y.finished_small f), e) refl) (λ f. rw f refl)

  pub reported_tidy : Tidy (reported_state s report)
  unfolding is_started
  reported_tidy =
      record {
        checked = y.checked;
        few = y.few;
        finished_started_lem =
            λ t e. ⊎_elim (y.finished_started_lem t) (λ q. sym (started_notes s t) ∙ and_left _ _ (reported_runs t q))
            (or_cases _ _ (sym (has_or t s.finished report) ∙ e));
        starts_zero = y.starts_zero;
        finishes_zero = λ t e.
            let f = sym (has_or t s.finished report) ∙ e in
            past_zero (reported_state s report).finishes t (length_tabulate most_tasks _)
            (λ l. stamp t l ∙ rw (or_right_off (has s.finished t) (has report t) f)
            (y.finishes_zero t (or_left_off (has s.finished t) (has report t) f)));
        finished_small = or_lt width s.finished report y.finished_small small;
        starts_long = y.starts_long;
        finishes_long = length_tabulate most_tasks _;
      }

  -- what the walk asks, from what the tick computes
  pub reported_walkable : {started running : ℕ} {users finishes : List ℕ}
      → started ≡ first_tasks s.constraint.order s.started → users ≡ users_of s
      → running ≡ without started (bit_or s.finished report)
      → finishes ≡ tabulate most_tasks (stamp_at s.finishes report (s.instant + 1))
      → Walkable (next_state s report finishes) users running
  reported_walkable e f g k = rw k (record { tidy = reported_tidy; users_are = f; running_are = g ∙ rw e refl })
