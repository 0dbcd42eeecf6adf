-- Notes that accepted reports lead to are those of the tidy state that stands for them. Assumes nothing.
use mathlib.Core.Path.{◌≡◌, refl, ap, ◌∙◌}
use mathlib.Core.Bool.{Bool, false, ◌&&◌, not}
use mathlib.Core.List.{List}
use Prim.Native.Nat.{ℕ, ◌^◌, ◌<◌}
use native.Mathlib.Nat.{le_refl}
use borrow.Author.Tests.{lt-ltb}
use Rattle.task_set.specs.Sets.{width, has, set_of}
use Rattle.task_set.proofs.Truth.{by_test}
use Rattle.task_set.proofs.Members.{has_set_of, set_of_small}
use Rattle.plan.specs.declared.Plan.{Plan}
use Rattle.plan.specs.declared.Constraint.{Constraint}
use Rattle.plan.specs.Refusals.{verdict}
use Rattle.plan.proofs.Accepted.{accepted}
use Rattle.runs.specs.Running.{Notes, is_running, entries, dispatch, advance, step, opening}
use Rattle.runs.specs.Journal.{idle, refusal, journal}
use Rattle.runs.proofs.Closed.{notes_ext}
use Rattle.runs.proofs.Sound.{report_timely}
use Rattle.runs.proofs.Reported.{reports_keep}
use Rattle.live.specs.declared.State.{State}
use Rattle.live.specs.States.{notes_of, state_of}
use Rattle.live.specs.Steps.{Tidy}
use Rattle.live.proofs.StateBack.{state_back}
use Rattle.live.proofs.Choices.{running_low}
use Rattle.live.proofs.WalkedStates.{after, walked_tidy, walked_notes}
use Rattle.live.proofs.FreshStates.{fresh, fresh_tidy, fresh_notes}
use Rattle.live.proofs.ReportedStates.{reported_state, reported_notes, reported_tidy}

-- the state that stands for the notes is tidy and gives them back
pub record Stands (p : Plan) (c : Constraint) (n : Notes) : Type 0 where
  pub tidy : Tidy (state_of p c n)
  pub back : notes_of (state_of p c n) ≡ n

-- the notes of a tidy state, walked on
stands_walked : (s : State) → Tidy s → {n : Notes} → notes_of s ≡ n
    → Stands s.plan s.constraint (dispatch s.plan s.constraint (entries s.constraint) n)
stands_walked s y e =
    let back = state_back (after s y) (walked_tidy s y) in
    rw (← e, ← walked_notes s y) (record { tidy = rw back (walked_tidy s y); back = ap notes_of back })

module _ (p : Plan) (c : Constraint) (ok : (verdict p c).number ≡ 0) where
  stands_opening : Stands p c (opening p c)
  unfolding opening
  stands_opening = stands_walked (fresh p c) (fresh_tidy p c ok) (fresh_notes p c)

  stands_step : (n : Notes) (report : ℕ) → (refusal p c n report).number ≡ 0 → Stands p c n → Stands p c (step p c (has report) n)
  unfolding step state_of idle
  stands_step n report e h =
      stands_walked (reported_state s low) (reported_tidy s h.tidy low small none_idle)
      (reported_notes s h.tidy low small none_idle ∙ ap (advance (has low)) h.back ∙ notes_ext refl (λ t. refl) heard)
    where
      s : State
      s = state_of p c n

      -- the members that are task numbers: no other task runs
      low : ℕ
      low = set_of width (has report)

      small : low < 2 ^ width
      small = set_of_small width (has report) (le_refl width)

      has_low : (t : ℕ) → t < width → has low t ≡ has report t
      has_low t l = has_set_of width (has report) t (le_refl width) ∙ rw (lt-ltb t width l) refl

      none_idle : (t : ℕ) → t < width → idle (notes_of s) low t ≡ false
      none_idle t l =
          ap (λ (m : Notes). idle m low t) h.back ∙ ap (λ (b : Bool). b && not (is_running n t)) (has_low t l)
          ∙ (report_timely p c n report e t l).0

      heard : (t : ℕ) → (advance (has low) n).finish t ≡ (advance (has report) n).finish t
      heard t =
          by_test (is_running n t)
          (λ r. let runs = ap (λ (m : Notes). is_running m t) h.back ∙ r in
          rw (has_low t (running_low s (accepted p c ok) h.tidy.few t runs)) refl)
          (λ r. rw r refl)

  pub stands : (reports : List ℕ) → Stands p c (journal p c reports)
  unfolding journal
  stands reports = reports_keep p c (Stands p c) stands_step reports (opening p c) stands_opening
