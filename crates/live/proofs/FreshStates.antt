-- The state that a run begins with. Assumes nothing.
use mathlib.Core.Path.{◌≡◌, refl, ap, ◌∙◌}
use mathlib.Core.Bool.{true, false}
use mathlib.Core.List.{List}
use Prim.Native.Nat.{ℕ, zero-le}
use borrow.Author.Tests.{eq-eqb}
use lib.Dec.{eqb}
use lib.ListN.{get_or, replicate, length-replicate, get_or-replicate}
use lib.Pow.{pow_pos}
use Rattle.task_set.specs.Bounded.{any}
use Rattle.task_set.specs.Sets.{width, without}
use Rattle.task_set.proofs.Truth.{clash}
use Rattle.task_set.proofs.Members.{has_none}
use Rattle.plan.specs.declared.Plan.{Plan}
use Rattle.plan.specs.declared.Constraint.{Constraint}
use Rattle.plan.specs.declared.Verdict.{Verdict}
use Rattle.plan.specs.Rules.{most_tasks}
use Rattle.plan.specs.Refusals.{verdict}
use Rattle.runs.specs.Running.{Notes, entries, dispatch, blank, opening}
use Rattle.runs.proofs.Closed.{notes_ext}
use Rattle.live_marks.proofs.Standing.{tasks_none}
use Rattle.live.specs.declared.State.{State}
use Rattle.live.specs.States.{is_started, notes_of, no_state}
use Rattle.live.specs.Ticks.{moved, stayed, started}
use Rattle.live.specs.Steps.{state_from, users_of, walked_on, Tidy, Walkable}
use Rattle.live.proofs.StateBack.{past_zero}

zeros : (t : ℕ) → ◌≡◌ {A = ℕ} (get_or (replicate most_tasks 0) t 0) 0
zeros t = past_zero (replicate most_tasks 0) t (length-replicate {A = ℕ} most_tasks 0) (get_or-replicate {A = ℕ} most_tasks t 0 0)

module _ (p : Plan) (c : Constraint) where
  abbrev pub fresh : State
  fresh = state_from p c 0 0 0 (replicate most_tasks 0) (replicate most_tasks 0)

  pub fresh_tidy : (verdict p c).number ≡ 0 → Tidy fresh
  fresh_tidy ok =
      record {
        checked = ok;
        few = zero-le;
        finished_started_lem = λ t e. absurd (clash e (has_none t));
        starts_zero = λ t e. zeros t;
        finishes_zero = λ t e. zeros t;
        finished_small = pow_pos width;
        starts_long = length-replicate {A = ℕ} most_tasks 0;
        finishes_long = length-replicate {A = ℕ} most_tasks 0;
      }

  -- the all-zero state z, once it has the plan and the constraint
  abbrev begun : State → State
  begun z = state_from p c z.instant z.started z.finished z.starts z.finishes

  pub fresh_walkable : (verdict p c).number ≡ 0 → {z : State} → z ≡ no_state → {users : List ℕ} → users ≡ users_of fresh
      → Walkable (begun z) users 0
  unfolding without
  fresh_walkable ok none e =
      rw none record { tidy = fresh_tidy ok; users_are = e; running_are = rw (tasks_none c.order (λ j. true)) refl }

  pub fresh_notes : notes_of fresh ≡ blank
  unfolding is_started any
  fresh_notes = notes_ext refl (λ t. refl) (λ t. rw (has_none t) refl)

  -- start, from the check's answer
  pub start_refused : {v : Verdict} → (v ≡ verdict p c) × (eqb (verdict p c).number 0 ≡ false) → stayed v no_state ≡ started p c
  unfolding started
  start_refused e = rw (e.0, e.1) refl

  pub start_walked : (verdict p c).number ≡ 0 → {z : State} → z ≡ no_state → walked_on (begun z) ≡ started p c
  unfolding started opening
  start_walked ok none =
      ap (λ (z : State). walked_on (begun z)) none
      ∙ rw (eq-eqb (verdict p c).number 0 ok) (ap (λ (n : Notes). moved p c n (dispatch p c (entries c) n)) fresh_notes)
