-- The state that stands for the notes of a timed run with allowed times, up to the bound, is sound. Assumes nothing.
use mathlib.Core.Path.{◌≡◌, refl, sym, ap, ◌∙◌}
use mathlib.Core.Bool.{Bool, true, false, ◌&&◌, ◌||◌}
use mathlib.Core.Option.{Option, none, some}
use Prim.Native.Nat.{ℕ, ◌+◌, ◌≤◌, ◌<◌}
use native.Mathlib.Nat.{le_trans, lt_of_lt_of_le}
use native.Mathlib.Omega.{arith}
use borrow.Author.Tests.{eq-eqb, leb-true, leb-false, le-leb, ltb-true, lt-ltb}
use lib.Dec.{leb, ltb}
use lib.ListN.{get_or}
use Rattle.task_set.specs.Bounded.{count}
use Rattle.task_set.specs.Sets.{width, has}
use Rattle.task_set.proofs.Truth.{by_test, and_both, or_left, or_right}
use Rattle.task_set.proofs.Bounded.{all_intro}
use Rattle.task_set.proofs.Tables.{get_d_tabulate}
use Rattle.plan.specs.declared.Plan.{Plan}
use Rattle.plan.specs.declared.Constraint.{Constraint}
use Rattle.plan.specs.Rules.{most_types, most_tasks, last_instant, release_of}
use Rattle.plan.specs.Refusals.{verdict}
use Rattle.plan.proofs.Accepted.{Accepted, accepted}
use Rattle.runs.specs.Running.{Notes, or_zero, given, has_started, has_finished, busy, worst, Allowed, timed, over, horizon, response, bound}
use Rattle.runs.proofs.Positions.{position, worst_short, horizon_short, allowed_lasts, allowed_most}
use Rattle.runs.proofs.Orders.{starts_of}
use Rattle.runs.proofs.Closed.{once, start_released_lem, timed_closed}
use Rattle.runs.proofs.Theorems.{first_over, within_bound, bound_sum, units_enough_lem as runs-enough}
use Rattle.live.specs.declared.State.{State}
use Rattle.live.specs.States.{is_started, state_of}
use Rattle.live.specs.Soundness.{start_in, finish_in, checked, started_fits, finished_started, start_came, start_released}
use Rattle.live.specs.Soundness.{finish_came, unused_zero, time_left, units_enough, instant_low, task_sound, is_sound}
use Rattle.live.proofs.StateBack.{started_notes, finished_notes}
use Rattle.live.proofs.Following.{Stands}

-- the start s and the finish f noted at instant i of a task with the not-before instant r and the worst time w: they have
-- come, no start before r, and a running task has time left
abbrev Came : ℕ → ℕ → ℕ → Option ℕ → Option ℕ → Type 0
Came i r w none none = Unit
Came i r w none (some f) = ⊥
Came i r w (some s) none = (r ≤ s) × (s ≤ i) × (i < s + w)
Came i r w (some s) (some f) = (r ≤ s) × (s < f) × (f ≤ i)

came_once : (i r s d w : ℕ) → r ≤ s → 1 ≤ d → d ≤ w → (x y : Bool) → leb s i ≡ x → leb (s + d) i ≡ y
    → Came i r w (once x s) (once y (s + d))
came_once i r s d w b l m true true e f = (b, omega arith, leb-true (s + d) i f)
came_once i r s d w b l m true false e f = (b, leb-true s i e, omega (arith, leb-false (s + d) i f))
came_once i r s d w b l m false true e f = absurd (omega (arith, leb-false s i e, leb-true (s + d) i f))
came_once i r s d w b l m false false e f = tt

module _ (p : Plan) (c : Constraint) (ok : (verdict p c).number ≡ 0) (d : ℕ → ℕ) (w : Allowed p c d) (i : ℕ)
    (soon : i ≤ bound p c) where
  a : Accepted p c
  a = accepted p c ok

  lasts : (t : ℕ) → t < p.tasks → 1 ≤ d t
  lasts = allowed_lasts a d w

  -- the greedy starts by position
  abbrev S : ℕ → ℕ
  S = starts_of p c d

  -- the notes of the run after the walk of instant i
  abbrev n : Notes
  n = timed p c d i

  -- ---- the tasks

  came : (t : ℕ) → Came n.instant (release_of p.releases t) (worst p c t) (n.start t) (n.finish t)
  came t =
      let at = S (position c t) in
      rw (timed_closed a d lasts i)
      (by_test (ltb t p.tasks)
      (λ e. let l = ltb-true t p.tasks e in
      rw e
      (came_once i _ at (d t) (worst p c t) (start_released_lem a d lasts t l) (lasts t l) (allowed_most a d w t l) (leb at i)
      (leb (at + d t) i) refl refl))
      (λ e. rw e tt))

  -- ---- the instant

  bound_low : bound p c ≤ last_instant
  unfolding horizon
  bound_low = le_trans (bound_sum p c ok) (horizon_short a (worst p c) (worst_short a))

  module _ (st : Stands p c n) where
    abbrev s : State
    s = state_of p c n

    task_sound_lem : (t : ℕ) → t < width → task_sound s t ≡ true
    unfolding state_of task_sound finished_started start_came start_released finish_came unused_zero time_left
    task_sound_lem t l =
        go (n.start t) (n.finish t)
        (sym (started_notes s t) ∙ ap (λ (m : Notes). has_started m t) st.back)
        (sym (finished_notes s t) ∙ ap (λ (m : Notes). has_finished m t) st.back)
        (get_d_tabulate most_tasks (λ u. or_zero (n.start u)) t 0 l) (get_d_tabulate most_tasks (λ u. or_zero (n.finish u)) t 0 l)
        (came t)
      where
        go : (o f : Option ℕ) → is_started s t ≡ given o → has s.finished t ≡ given f → start_in s t ≡ or_zero o
            → finish_in s t ≡ or_zero f → Came n.instant (release_of p.releases t) (worst p c t) o f → task_sound s t ≡ true
        go none none b e x y k = rw (b, e, x, y)
        go none (some f) b e x y k = absurd k
        go (some o) none b e x y k =
            rw (b, e, x, y, le-leb _ o k.0, le-leb o n.instant k.1, lt-ltb n.instant (o + worst p c t) k.2)
        go (some o) (some f) b e x y k =
            rw (b, e, x, y, le-leb _ o k.0, le-leb o n.instant (omega arith), lt-ltb o f k.1, le-leb f n.instant k.2)

    units_enough_lem : (k : ℕ) → k < most_types → units_enough s k ≡ true
    unfolding units_enough state_of
    units_enough_lem k l =
        ap (λ (m : Notes). leb (busy c m k) (get_or p.units k 0)) st.back
        ∙ le-leb (busy c n k) (get_or p.units k 0) (runs-enough p c ok d w i k)

    instant_low_lem : instant_low s ≡ true
    unfolding instant_low state_of
    instant_low_lem =
        ap (λ (m : Notes). leb m.instant last_instant && (over p m || ltb m.instant last_instant)) st.back
        ∙ and_both (le-leb n.instant last_instant (omega (arith, instant_is, bound_low)))
        (by_test (over p n) (or_left (ltb n.instant last_instant))
        (λ e. or_right (over p n) (lt-ltb n.instant last_instant (omega (arith, instant_is, before e, bound_low)))))
      where
        instant_is : n.instant ≡ i
        instant_is = ap (λ (m : Notes). m.instant) (timed_closed a d lasts i)

        before : over p n ≡ false → i < bound p c
        before e =
            lt_of_lt_of_le (leb-false (response p c d) i (sym (first_over p c ok d w i) ∙ e))
            (within_bound p c ok d w)

    pub state_sound : is_sound s ≡ true
    unfolding is_sound checked started_fits state_of
    state_sound =
        and_both (eq-eqb (verdict p c).number 0 ok)
        (and_both (le-leb (count width (has_started n)) p.tasks st.tidy.few)
        (and_both (all_intro width (task_sound s) task_sound_lem)
        (and_both (all_intro most_types (units_enough s) units_enough_lem) instant_low_lem)))
