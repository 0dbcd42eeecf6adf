-- The constraint of a schedule that nothing refuses passes the check, and its bound is no later than the schedule.
-- Assumes nothing.
use mathlib.Core.Path.{◌≡◌, refl, sym, ap, ap₂, ◌∙◌}
use mathlib.Core.Bool.{Bool, true, false, not}
use Prim.Native.Nat.{ℕ, ◌+◌, ◌≤◌, ◌<◌}
use native.Mathlib.Nat.{le_refl, le_trans, le_of_eq, lt_trans, lt_of_lt_of_le, lt_of_le_of_lt}
use native.Mathlib.Omega.{arith}
use borrow.Author.Tests.{eq-eqb, ne_eqb, le-leb, lt-leb, lt-ltb, not-true}
use lib.Dec.{eqb, ltb}
use lib.ListN.{get_or}
use Rattle.task_set.specs.Bounded.{any, count}
use Rattle.task_set.specs.Sets.{width, has}
use Rattle.task_set.proofs.Truth.{clash, off, and_left, and_right, and_both, or_none}
use Rattle.task_set.proofs.Bounded.{any_intro, any_none, count_mono, count_less}
use Rattle.plan.specs.declared.Plan.{Plan}
use Rattle.plan.specs.declared.Constraint.{Constraint}
use Rattle.plan.specs.declared.Verdict.{Verdict}
use Rattle.plan.specs.Rules.{time_of, predecessors_of, release_of}
use Rattle.plan.specs.Refusals.{entry_at, misplaced, unusable, no_refusal, verdict}
use Rattle.plan.specs.Steps.{placed, unmet}
use Rattle.plan.proofs.Kept.{known_predecessor}
use Rattle.plan.proofs.Verdicts.{accepts}
use Rattle.plan.proofs.Accepted.{Accepted, accepted}
use Rattle.dispatch_theory.proofs.Sums.{greatest_lub, greatest_le}
use Rattle.dispatch_theory.proofs.Greedy.{ends, earliest}
use Rattle.dispatch_theory.proofs.Rules.{rule_gate, gate_intro}
use Rattle.dispatch_theory.proofs.Rules as rules
use Rattle.runs.specs.Running.{worst, bound}
use Rattle.runs.proofs.Positions.{worst_entry, worst_lasts}
use Rattle.runs.proofs.Orders.{order_of, durations, starts_of, lawful, greedy}
use Rattle.runs.proofs.Response.{response_ends}
use Rattle.adoption_theory.specs.declared.Schedule.{Schedule}
use Rattle.adoption_theory.specs.Schedules.{task_at, type_at, start_at, finish_at, greatest_finish, holds, place_of, record_at, constraint_by}
use Rattle.adoption_theory.proofs.Taken.{Taken, records, lasts}
use Rattle.adoption_theory.proofs.Placed.{Once, place_low, record_place, record_low, place_record, record_once, count_records, starts_rise, sooner_place, in_place_lem}

module _ {p : Plan} {s : Schedule} (a : Taken p s) where
  abbrev c : Constraint
  c = constraint_by s

  each : Once s p.tasks
  each = record { whole = a.whole; records = records a }

  -- the record at a place, and what the constraint says there
  abbrev at : ℕ → ℕ
  at k = record_at s k

  low : (k : ℕ) → k < p.tasks → at k < p.tasks
  low = record_low each

  order_at : (k : ℕ) → k < p.tasks → entry_at c.order k ≡ task_at s (at k)
  unfolding constraint_by
  order_at = in_place_lem each s.tasks

  chosen_at : (k : ℕ) → k < p.tasks → entry_at c.chosen k ≡ type_at s (at k)
  unfolding constraint_by
  chosen_at = in_place_lem each s.types

  len_is : c.len ≡ p.tasks
  unfolding constraint_by
  len_is = a.whole

  -- ---- the check passes it

  module _ (k : ℕ) (l : k < p.tasks) where
    not_9 : misplaced p.tasks c.order k ≡ false
    unfolding misplaced
    not_9 =
        or_none (lt-leb p.tasks _ (lt_of_le_of_lt (le_of_eq (order_at k l)) (a.task (at k) (low k l))))
        (any_none k _ (λ j m. ne_eqb _ _ (λ e. other j m (sym (order_at j (lt_trans m l)) ∙ e ∙ order_at k l))))
      where
        other : (j : ℕ) → j < k → task_at s (at j) ≡ task_at s (at k) → ⊥
        other j m e =
            let h = lt_trans m l in
            let q : j ≡ k = record_once each j k h l (a.once (at j) (at k) (low j h) (low k l) e) in
            omega arith

    not_10 : unusable p.types p.wcet c.order c.chosen k ≡ false
    unfolding unusable
    not_10 =
        rw (order_at k l, chosen_at k l) (or_none (lt-leb _ _ (a.type (at k) (low k l))) (ap not (a.can_use (at k) (low k l))))

    -- a predecessor's record starts sooner, so its place is before
    not_11 : unmet p.predecessors c.order k ≡ false
    unfolding unmet placed
    not_11 = any_none width _ (λ u m. off _ (λ e. missing u m (and_left (has needed u) _ e) (not-true _ (and_right (has needed u) _ e))))
      where
        needed : ℕ
        needed = predecessors_of p.predecessors (entry_at c.order k)

        missing : (u : ℕ) → u < width → has (predecessors_of p.predecessors (entry_at c.order k)) u ≡ true
            → any k (λ j. eqb (entry_at c.order j) u) ≡ false → ⊥
        missing u m h f =
            clash (any_intro k _ (place_of s j) there
            (eq-eqb _ _ (order_at (place_of s j) (place_low each j r.1) ∙ ap (task_at s) (record_place each j r.1) ∙ r.2))) f
          where
            waits : has (predecessors_of p.predecessors (task_at s (at k))) u ≡ true
            waits = rw (order_at k l) at h

            r : (j : ℕ) × (j < p.tasks) × (task_at s j ≡ u)
            r = a.somewhere u (known_predecessor p a.kept (task_at s (at k)) (a.task (at k) (low k l)) u m waits)

            j : ℕ
            j = r.0

            there : place_of s j < k
            there =
                lt_of_lt_of_le
                (sooner_place each (at k) j r.1
                (lt_of_lt_of_le (lasts a j r.1) (a.waited (at k) j (low k l) r.1 (rw r.2 waits))))
                (le_of_eq (place_record each k l))

  passes : verdict p c ≡ no_refusal
  passes = accepts p c a.kept len_is not_9 not_10 not_11

  pub number_0 : (verdict p c).number ≡ 0
  number_0 = ap (λ (v : Verdict). v.number) passes

  -- ---- its bound is in time

  both : Accepted p c
  both = accepted p c number_0

  -- the schedule's starts by position, and the worst times
  x : ℕ → ℕ
  x k = start_at s (at k)

  d : ℕ → ℕ
  d = durations c (worst p c)

  finish_at_lem : (k : ℕ) → k < p.tasks → ends x d k ≡ finish_at s (at k)
  unfolding x d
  finish_at_lem k l =
      ap (λ (w : ℕ). x k + w) (worst_entry both k l ∙ ap₂ (time_of p.wcet) (order_at k l) (chosen_at k l))
      ∙ sym (a.ends (at k) (low k l))

  -- at the schedule's starts every gate is open: 22 is what a gate asks, and the record itself is the one more
  gate_open : (k : ℕ) → k < p.tasks → rule_gate (order_of p c) (ends x d) k (x k) ≡ true
  unfolding holds x
  gate_open k l = gate_intro (order_of p c) (ends x d) (x k) k (record { waited = waits; released = released; room = room })
    where
      waits : (j : ℕ) → j < k → has (predecessors_of p.predecessors (entry_at c.order k)) (entry_at c.order j) ≡ true
          → ends x d j ≤ x k
      waits j m w =
          let h = lt_trans m l in
          le_trans (le_of_eq (finish_at_lem j h)) (a.waited (at k) (at j) (low k l) (low j h) (rw (order_at k l, order_at j h) at w))

      released : release_of p.releases (entry_at c.order k) ≤ start_at s (at k)
      released = le_trans (le_of_eq (ap (release_of p.releases) (order_at k l))) (a.released (at k) (low k l))

      -- the records that hold the type then, by place
      held : ℕ → Bool
      held j = holds s (type_at s (at k)) (start_at s (at k)) (at j)

      itself : held k ≡ true
      itself =
          and_both (eq-eqb (type_at s (at k)) _ refl)
          (and_both (le-leb _ _ (le_refl (start_at s (at k)))) (lt-ltb _ _ (lasts a (at k) (low k l))))

      still : (j : ℕ) → j < k → rules.holds (order_of p c) (ends x d) (x k) (entry_at c.chosen k) j ≡ true → held j ≡ true
      still j m e =
          let h = lt_trans m l in
          let same = eqb (entry_at c.chosen j) (entry_at c.chosen k) in
          and_both (rw (chosen_at j h, chosen_at k l) at (and_left same (ltb (x k) (ends x d j)) e))
          (and_both (le-leb _ _ (starts_rise each k j m l))
          (rw (finish_at_lem j h) at (and_right same (ltb (x k) (ends x d j)) e)))

      room : count k (rules.holds (order_of p c) (ends x d) (x k) (entry_at c.chosen k)) < get_or p.units (entry_at c.chosen k) 0
      room =
          lt_of_lt_of_le
          (lt_of_le_of_lt (count_mono k _ held still) (count_less p.tasks held k l itself))
          (le_trans (le_of_eq (count_records each (holds s (type_at s (at k)) (start_at s (at k)))))
          (le_trans (a.room (at k) (low k l)) (le_of_eq (ap (λ (t : ℕ). get_or p.units t 0) (sym (chosen_at k l))))))

  -- no task starts later than its record says
  pub on_time : (k : ℕ) → k < p.tasks → starts_of p c (worst p c) k ≤ start_at s (record_at s k)
  unfolding x d
  on_time = earliest (lawful both) (greedy both (worst p c)) x (starts_rise each) gate_open

  pub in_time : bound p c ≤ greatest_finish s
  unfolding bound x d greatest_finish
  in_time =
      rw (response_ends both (worst p c) (worst_lasts both))
      (greatest_lub p.tasks (ends (starts_of p c (worst p c)) d) (greatest_finish s)
      (λ k l. omega (
        arith,
        on_time k l,
        finish_at_lem k l,
        greatest_le s.len (finish_at s) (at k) (omega (arith, low k l, a.whole)),
      )))
