-- Whether a state is sound, from the answers of the functions that test its parts. Assumes nothing.
use mathlib.Core.Path.{◌≡◌, refl, sym, ap, ◌∙◌}
use mathlib.Core.Bool.{Bool, true, false, ◌&&◌, ◌||◌, not, and-true, and-false, and_assoc}
use mathlib.Core.Logic.{⊎_elim}
use Prim.Native.Nat.{ℕ, ◌≤◌, ◌<◌}
use native.Mathlib.Omega.{arith}
use borrow.Author.Tests.{ltb-true, ltb-false, eqb-true, eq-eqb, le-leb, lt-leb, not-true, not-false}
use lib.Bits.{bit_and}
use lib.Dec.{eqb, leb, ltb}
use lib.ListN.{get_or}
use Rattle.std.proofs.Common.{Result}
use Rattle.std.specs.Result.{is_err}
use Rattle.task_set.specs.Bounded.{all}
use Rattle.task_set.specs.Sets.{width, has}
use Rattle.task_set.proofs.Truth.{by_test, not_leb, or_cases, or_left_off, or_right_off}
use Rattle.task_set.proofs.Bounded.{all_cong, all_both}
use Rattle.task_set.proofs.Members.{apart_mask}
use Rattle.plan.specs.declared.Verdict.{Verdict}
use Rattle.plan.specs.Rules.{most_tasks, most_types}
use Rattle.plan.specs.Refusals.{as_result, verdict}
use Rattle.plan.specs.Steps.{Positions}
use Rattle.plan.proofs.Accepted.{Accepted, accepted, positions}
use Rattle.runs.specs.Running.{is_running}
use Rattle.live_marks.specs.declared.Marks.{Marks}
use Rattle.live_marks.proofs.Standing.{has_tasks, tasks_small}
use Rattle.live_sound.specs.Steps.{all_times_fit, enough_for, sound_by}
use Rattle.live.specs.declared.State.{State}
use Rattle.live.specs.States.{is_started, notes_of}
use Rattle.live.specs.Soundness.{checked, started_fits, finished_started, start_came, start_released, finish_came}
use Rattle.live.specs.Soundness.{unused_zero, time_left, units_enough, instant_low, task_sound, is_sound}
use Rattle.live.specs.Steps.{running_of, users_of, marks_in}
use Rattle.live.proofs.StateBack.{running_notes, over_notes}
use Rattle.live.proofs.Choices.{spent_own, busy_size}

-- what the first two tests leave
pub record Passed (s : State) : Type 0 where
  pub checked : (verdict s.plan s.constraint).number ≡ 0
  pub few : s.started ≤ s.plan.tasks

module _ (s : State) where
  -- the first two tests, as the tick asks them
  module _ {answer : Result (Unit {0}) Verdict} (f : answer ≡ as_result (verdict s.plan s.constraint)) {broken : Bool}
      (g : broken ≡ is_err answer) where
    e : broken ≡ not (eqb (verdict s.plan s.constraint).number 0)
    unfolding as_result
    e = g ∙ rw f (by_test (eqb (verdict s.plan s.constraint).number 0) (λ q. rw q refl) (λ q. rw q refl))

    pub unsound_first : broken || ltb s.plan.tasks s.started ≡ true → is_sound s ≡ false
    unfolding is_sound checked started_fits
    unsound_first f =
        ⊎_elim (λ q. rw (not-true (eqb (verdict s.plan s.constraint).number 0) (sym e ∙ q)))
        (λ q. rw (lt-leb s.started s.plan.tasks (ltb-true _ _ q), and-false (checked s))) (or_cases _ _ f)

    pub passed_first : broken || ltb s.plan.tasks s.started ≡ false → Passed s
    passed_first f =
        record {
          checked = eqb-true _ 0 (not-false _ (sym e ∙ or_left_off _ _ f));
          few = ltb-false _ _ (or_right_off broken _ f);
        }

  module _ (y : Passed s) where
    a : Accepted s.plan s.constraint
    a = accepted s.plan s.constraint y.checked

    -- what the functions on sets require
    pub tasks_low : s.plan.tasks ≤ most_tasks
    tasks_low = a.few_tasks

    pub positions_fit : Positions s.constraint.order s.constraint.chosen s.constraint.len
        × (s.started ≤ s.constraint.len)
    positions_fit = (positions s.plan s.constraint a, omega (arith, a.whole, y.few))

    -- ---- the clauses about tasks

    -- the started tasks, the running ones, and those whose worst time has come
    abbrev started : ℕ
    started = (marks_in s).started

    abbrev running : ℕ
    running = running_of s

    abbrev spent : ℕ
    spent = (marks_in s).spent

    has_started_lem : (t : ℕ) → t < width → has started t ≡ is_started s t
    unfolding is_started
    has_started_lem = has_tasks s.constraint.order s.started (λ j. true)

    abbrev fits : ℕ → Bool
    fits = all_times_fit s.plan.releases s.starts s.finishes started s.finished s.instant

    time_left_lem : (t : ℕ) → t < width → time_left s t ≡ not (has spent t && has running t)
    unfolding time_left
    time_left_lem t l =
        rw (running_notes s t l)
        (by_test (is_running (notes_of s) t)
        (λ e. rw (e, and-true, spent_own s a y.few t e) (sym (not_leb _ s.instant))) (λ e. rw (e, and-false (has spent t))))

    task_parts : (t : ℕ) → t < width → task_sound s t ≡ fits t && time_left s t
    unfolding task_sound finished_started start_came start_released finish_came unused_zero all_times_fit
    task_parts t l = rw (has_started_lem t l) (simp and_assoc)

    tasks_by : all width (task_sound s) ≡ all width fits && eqb (bit_and spent running) 0
    tasks_by =
        all_cong width (task_sound s) _ (λ t l. task_parts t l ∙ ap (λ (b : Bool). fits t && b) (time_left_lem t l))
        ∙ all_both width fits (λ t. not (has spent t && has running t))
        ∙ ap (λ (b : Bool). all width fits && b) (sym (apart_mask width spent running (tasks_small _ _ _)))

    -- ---- the clauses about types and the instant

    units_by : all most_types (units_enough s) ≡ all most_types (enough_for s.plan.units (users_of s) running)
    unfolding units_enough enough_for
    units_by = all_cong most_types _ _ (λ k l. ap (λ (n : ℕ). leb n (get_or s.plan.units k 0)) (busy_size s a y.few k l))

    -- ---- the whole

    pub sound_by_lem : {m : Marks} {done : Bool} → m ≡ marks_in s → done ≡ all s.plan.tasks (has s.finished)
        → sound_by s.plan.units s.plan.releases s.starts s.finishes m done s.finished s.instant ≡ is_sound s
    unfolding is_sound checked started_fits instant_low sound_by
    sound_by_lem e f =
        rw (e, f, ← tasks_by, ← units_by, over_notes s, eq-eqb _ 0 y.checked, le-leb s.started s.plan.tasks y.few)
