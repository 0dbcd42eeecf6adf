-- What a tick answers. Assumes nothing.
use mathlib.Core.Path.{◌≡◌, refl, sym, ap, ◌∙◌}
use mathlib.Core.Bool.{Bool, true, false, cond}
use mathlib.Core.List.{List}
use Prim.Native.Nat.{ℕ, ◌+◌, ◌^◌, ◌≤◌, ◌<◌}
use native.Mathlib.Nat.{lt_of_le_of_lt}
use native.Mathlib.Omega.{arith}
use borrow.Author.Tests.{eq-eqb, eqb-true}
use lib.Dec.{eqb}
use Rattle.std.proofs.Common.{Result, Ok, Err}
use lib.Bits.{bit_and, and_le_l}
use Rattle.task_set.specs.Bounded.{all, first, tabulate}
use Rattle.task_set.specs.Sets.{width, has, without}
use Rattle.task_set.proofs.Truth.{by_test}
use Rattle.task_set.proofs.Members.{without_small}
use Rattle.plan.specs.declared.Verdict.{Verdict}
use Rattle.plan.specs.Rules.{most_tasks}
use Rattle.plan.specs.Refusals.{refused, no_refusal, first_refusal, as_result}
use Rattle.plan.proofs.Accepted.{Accepted, accepted}
use Rattle.plan.proofs.Refusing.{as_ok, as_err}
use Rattle.runs.specs.Running.{Notes, entries, dispatch, step, over}
use Rattle.runs.specs.Journal.{idle, overdue, refusal, newly_started}
use Rattle.runs.proofs.Sound.{report_timely}
use Rattle.runs.proofs.Theorems.{stranger_first, both_faults, hung_first}
use Rattle.live_marks.specs.declared.Marks.{Marks}
use Rattle.live_marks.proofs.Standing.{tasks_small}
use Rattle.live_report.specs.Steps.{unless_empty, verdict_by, stamp_at}
use Rattle.live.specs.declared.State.{State}
use Rattle.live.specs.States.{notes_of}
use Rattle.live.specs.Soundness.{is_sound}
use Rattle.live.specs.Ticks.{moved, stayed, tick_verdict, ticked}
use Rattle.live.specs.Steps.{running_of, walked_on, marks_in, judged}
use Rattle.live.proofs.StateBack.{over_notes}
use Rattle.live.proofs.Reports.{unless_set, idle_set, overdue_set}
use Rattle.live.proofs.ReportedStates.{next_state, Shaped, sound_checked, sound_few, sound_tidy, reported_notes}

module _ (s : State) (report : ℕ) where
  pub says_12 : is_sound s ≡ false → tick_verdict s report ≡ refused 12 0
  unfolding tick_verdict first_refusal
  says_12 e = rw e refl

  -- theorem `hung_first`, of a tick on any state (document 02, 7)
  pub tick_hung_first : tick_verdict s report
      ≡ first_refusal (cond (is_sound s) no_refusal (refused 12 0))
      (cond (both_faults s.plan s.constraint (notes_of s) report)
      (refused 16 (first width (overdue s.plan s.constraint (notes_of s) report)))
      (stranger_first s.plan s.constraint (notes_of s) report))
  unfolding tick_verdict
  tick_hung_first = ap (first_refusal _) (hung_first s.plan s.constraint (notes_of s) report)

  module _ (sound : is_sound s ≡ true) where
    sound_verdict : tick_verdict s report ≡ refusal s.plan s.constraint (notes_of s) report
    unfolding tick_verdict first_refusal
    sound_verdict = rw sound refl

    module _ (small : report < 2 ^ width) where
      a : Accepted s.plan s.constraint
      a = accepted s.plan s.constraint (sound_checked s sound)

      few : s.started ≤ s.plan.tasks
      few = sound_few s sound

      -- 13, 16 and 14, by the sets that the tick computes
      pub verdict_by_lem : {m : Marks} {done : Bool} → m ≡ marks_in s → done ≡ all s.plan.tasks (has s.finished)
          → verdict_by m done s.finished report ≡ tick_verdict s report
      unfolding verdict_by refusal
      verdict_by_lem e f =
          let due = lt_of_le_of_lt (and_le_l _ _) (tasks_small _ _ _) in
          rw (e, f, ← over_notes s)
          (ap (cond (over s.plan (notes_of s)) (refused 13 0))
          (ap (unless_empty 16 (without (bit_and (marks_in s).due (running_of s)) report))
          (sym (unless_set 14 _ no_refusal (without_small width report _ small) (idle_set s report)))
          ∙ sym (unless_set 16 _ _ (without_small width _ report due) (overdue_set s a few report)))
          ∙ sym sound_verdict)

-- ---- what a tick is judged to be

pub judged_unsound : (s : State) (report : ℕ) → is_sound s ≡ false → {v : Verdict} → v ≡ refused 12 0
    → ◌≡◌ {A = Result Marks Verdict} (Err v) (judged s report)
judged_unsound s report e f = rw (f, says_12 s report e) refl

-- of a sound state, from what is found of the report
module _ (s : State) (report : ℕ) (small : report < 2 ^ width) (sound : is_sound s ≡ true) {m : Marks} {done : Bool}
    (e : m ≡ marks_in s) (f : done ≡ all s.plan.tasks (has s.finished)) {w : Result (Unit {0}) Verdict}
    (h : w ≡ as_result (verdict_by m done s.finished report)) where
  found : w ≡ as_result (tick_verdict s report)
  found = h ∙ ap as_result (verdict_by_lem s report sound small e f)

  pub judged_refused : {v : Verdict} → w ≡ Err v → ◌≡◌ {A = Result Marks Verdict} (Err v) (judged s report)
  judged_refused k = let x = as_err (tick_verdict s report) (sym k ∙ found) in rw (x.1, x.0) refl

  pub judged_taken : {u : Unit {0}} → w ≡ Ok u → ◌≡◌ {A = Result Marks Verdict} (Ok m) (judged s report)
  judged_taken k = rw (eq-eqb (tick_verdict s report).number 0 (as_ok _ (sym k ∙ found)), e) refl

-- ---- an accepted tick

module _ (s : State) (report : ℕ) (ok : (tick_verdict s report).number ≡ 0) where
  pub accepted_sound : is_sound s ≡ true
  accepted_sound =
      by_test (is_sound s) (λ e. e) (λ e. let z : ◌≡◌ {A = ℕ} 12 0 = rw (says_12 s report e) at ok in absurd (omega arith))

  pub accepted_idle : (t : ℕ) → t < width → idle (notes_of s) report t ≡ false
  accepted_idle t l =
      (report_timely s.plan s.constraint (notes_of s) report (rw (sound_verdict s report accepted_sound) at ok) t l).0

  -- the walk of the next instant, at which the reported tasks have their finishes, is one instant of the running rules
  pub accepted_moved : Shaped s → report < 2 ^ width → {finishes : List ℕ}
      → finishes ≡ tabulate most_tasks (stamp_at s.finishes report (s.instant + 1))
      → walked_on (next_state s report finishes) ≡ ticked s report
  unfolding ticked step newly_started
  accepted_moved h small e =
      ap (λ (l : List ℕ). walked_on (next_state s report l)) e
      ∙ ap (λ (m : Notes). moved s.plan s.constraint m (dispatch s.plan s.constraint (entries s.constraint) m))
      (reported_notes s (sound_tidy s h accepted_sound) report small accepted_idle)
      ∙ rw (eq-eqb (tick_verdict s report).number 0 ok) refl

-- ---- the tick, from what it is judged to be

module _ (s : State) (report : ℕ) where
  pub tick_stays : {v : Verdict} → Err v ≡ judged s report → stayed v s ≡ ticked s report
  unfolding ticked
  tick_stays {v} h =
      by_test (eqb (tick_verdict s report).number 0)
      (λ q. let z : ◌≡◌ {A = Result Marks Verdict} (Err v) (Ok (marks_in s)) = rw q at h in cc)
      (λ q. let z : ◌≡◌ {A = Result Marks Verdict} (Err v) (Err (tick_verdict s report)) = rw q at h in
      let y : v ≡ tick_verdict s report = cc in rw (y, q) refl)

  -- what an accepted tick goes by
  pub record Taken (m : Marks) : Type 0 where
    pub ok : (tick_verdict s report).number ≡ 0
    pub marks : m ≡ marks_in s

  pub tick_taken : {m : Marks} → Ok m ≡ judged s report → Taken m
  tick_taken {m} h =
      by_test (eqb (tick_verdict s report).number 0)
      (λ q. let z : ◌≡◌ {A = Result Marks Verdict} (Ok m) (Ok (marks_in s)) = rw q at h in
      record { ok = eqb-true _ 0 q; marks = cc })
      (λ q. let z : ◌≡◌ {A = Result Marks Verdict} (Ok m) (Err (tick_verdict s report)) = rw q at h in cc)
