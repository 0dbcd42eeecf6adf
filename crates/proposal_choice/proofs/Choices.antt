-- The unit that a task takes, as the loops find it: the earliest start on a type, the best type, the first unit that is free
-- then. Assumes nothing.
use mathlib.Core.Path.{◌≡◌, refl, sym, ap, ◌∙◌, subst}
use mathlib.Core.Bool.{Bool, true, false, ◌||◌}
use mathlib.Core.List.{List}
use mathlib.Core.Logic.{⊎_elim}
use Prim.Native.Nat.{ℕ, ◌+◌, ◌*◌, ◌-◌, ◌%◌, ◌≤◌, ◌<◌, min, zero-le}
use native.Mathlib.Nat.{add-zero, eq-or-lt_of_le, le_refl, le_of_lt, le_trans, lt_of_lt_of_le, not-suc-le-zero}
use native.Mathlib.Omega.{arith}
use borrow.Author.Count.{below_none, below_more}
use borrow.Author.Tests.{eqb-true, eqb-false, leb-true, leb-false, ltb-true, ltb-false, le-leb, lt-ltb, le-ltb}
use lib.Dec.{eqb, leb, ltb}
use lib.ListN.{get_or}
use Rattle.std.specs.Prelude.{Option, None, Some}
use Rattle.task_set.specs.Bounded.{first}
use Rattle.task_set.proofs.Truth.{by_test, off, or_cases, or_left_off}
use Rattle.task_set.proofs.Search.{first_is, first_unique}
use Rattle.plan.specs.Rules.{most_types, most_units, time_of, usable}
use Rattle.proposal_theory.proofs.Units.{slot_type, as_slot, slot_fits, fit_unit, fit_lasts, first_below, Earliest, earliest_intro, earliest_elim}
use Rattle.proposal_theory.specs.Proposals.{most_slots, type_of, fits, finish_on, earliest, unit_of}
use Rattle.proposal_theory.specs.Units.{slot}
use Rattle.proposal_choice.specs.declared.Best.{Best}
use Rattle.proposal_choice.specs.Steps.{Soonest, latest, first_slot, Placeable, never, Reached, BestBelow}

-- ---- the earliest start on the units of a type

-- from when unit u of type k is free
abbrev from : List ℕ → ℕ → ℕ → ℕ
from free k u = get_or free (slot k u) 0

-- none of the first u units is free by `held` or before `start`, at which one of the n is free
pub record Awaited (free : List ℕ) (k n held u start : ℕ) : Type 0 where
  pub within : u ≤ n
  pub later : (v : ℕ) → v < u → held < from free k v
  pub least : (v : ℕ) → v < u → start ≤ from free k v
  pub reached : (v : ℕ) × (v < n) × (start ≡ from free k v)

module _ {free : List ℕ} {k n held : ℕ} where
  -- no unit is looked at
  pub awaited_none : 1 ≤ n → Awaited free k n held 0 (get_or free (k * most_units) 0)
  awaited_none l =
      record { within = zero-le; later = below_none _; least = below_none _; reached = (0, l, rw (add-zero (k * most_units))) }

  -- one more is looked at, and it is not free by then
  pub awaited_more : {u start : ℕ} → Awaited free k n held u start → u < n → held < from free k u
      → Awaited free k n held (u + 1) (min start (from free k u))
  awaited_more {u} {start} a l h =
      record {
        within = omega arith;
        later = below_more (λ (v : ℕ). held < from free k v) u a.later h;
        least = below_more (λ (v : ℕ). min start x ≤ from free k v) u (λ v i. omega (arith, a.least v i)) (omega arith);
        reached = by_test (ltb start x) (λ e. (a.reached.0, a.reached.1, omega (arith, a.reached.2, ltb-true start x e)))
            (λ e. (u, l, omega (arith, ltb-false start x e)));
      }
    where
      x : ℕ
      x = from free k u

  -- one is free by then
  pub soonest_held : {u : ℕ} → u < n → from free k u ≤ held → Soonest free k n held held
  soonest_held {u} l h = record { least = λ v i. omega arith; reached = (u, l, omega arith) }

  -- all are looked at
  pub soonest_later : {u start : ℕ} → Awaited free k n held u start → n ≤ u → Soonest free k n held start
  soonest_later a l =
      let r = a.reached in
      record {
        least = λ v i. omega (arith, a.least v (lt_of_lt_of_le i l));
        reached = (r.0, r.1, omega (arith, r.2, a.later r.0 (lt_of_lt_of_le r.1 l)));
      }

-- a placeable task finds a unit that fits
pub some_fit : {units wcet : List ℕ} {t : ℕ} {free : List ℕ} → Placeable units wcet t free
    → (n : ℕ) × (n < most_slots) × (fits units wcet t n ≡ true)
some_fit {units} {wcet} {t} p =
    let r = p.usable_type in
    (slot r.0 0, omega (arith, r.1), slot_fits units wcet t r.0 0 (omega arith) (p.some_units r.0 r.2) r.2)

-- ---- the best type

module _ {units wcet : List ℕ} {t : ℕ} {free : List ℕ} {held : ℕ} where
  -- no type is looked at
  pub best_none : {k : ℕ} → BestBelow units wcet t free held 0 (record { unit_type = k; finish = never })
  best_none = record { least = λ n l. absurd (not-suc-le-zero l); reached = λ l. absurd (omega arith) }

  -- enough types are looked at
  pub best_end : {k m : ℕ} {b : Best} → BestBelow units wcet t free held k b → m ≤ k → BestBelow units wcet t free held m b
  best_end h l = record { least = λ n i. h.least n (lt_of_lt_of_le i l); reached = h.reached }

module _ {units wcet : List ℕ} {t : ℕ} {free : List ℕ} {held k time : ℕ} {b : Best} (h : BestBelow units wcet t free held k b)
    (e : time ≡ time_of wcet t k) where
  -- a type that isn't skipped is one that the task can use
  pub in_use : eqb time 0 || leb b.finish (held + time) ≡ false → usable wcet t k ≡ true
  unfolding usable
  in_use f = lt-ltb 0 (time_of wcet t k) (omega (arith, eqb-false time 0 (or_left_off (eqb time 0) _ f)))

  -- what is at most the finishes on the types below, and on type k
  up_to : {x : ℕ} → ((n : ℕ) → type_of n < k → fits units wcet t n ≡ true → x ≤ finish_on wcet t free held n)
      → ((n : ℕ) → type_of n ≡ k → fits units wcet t n ≡ true → x ≤ finish_on wcet t free held n)
      → (n : ℕ) → type_of n < k + 1 → fits units wcet t n ≡ true → x ≤ finish_on wcet t free held n
  up_to below here n l g =
      let m : type_of n ≤ k = omega arith in ⊎_elim (λ q. here n q g) (λ q. below n q g) (eq-or-lt_of_le m)

  -- type k is no better
  kept : ((n : ℕ) → type_of n ≡ k → fits units wcet t n ≡ true → b.finish ≤ finish_on wcet t free held n)
      → BestBelow units wcet t free held (k + 1) b
  kept f = record { least = up_to h.least f; reached = h.reached }

  -- the task can't use it, or finishes there no earlier even where it starts at once
  pub best_skipped : eqb time 0 || leb b.finish (held + time) ≡ true → BestBelow units wcet t free held (k + 1) b
  best_skipped f =
      kept (λ n q g. ⊎_elim
      (λ z. absurd (omega (arith, fit_lasts units wcet t n g, eqb-true time 0 z, ap (time_of wcet t) q)))
      (λ z. omega (arith, leb-true b.finish (held + time) z, ap (time_of wcet t) q))
      (or_cases (eqb time 0) _ f))

  module _ {start : ℕ} (s : Soonest free k (get_or units k 0) held start) where
    on_type : (n : ℕ) → type_of n ≡ k → fits units wcet t n ≡ true → start + time ≤ finish_on wcet t free held n
    on_type n q g =
        omega (arith, rw (as_slot q) at (s.least (n % most_units) (rw q at (fit_unit units wcet t n g))), ap (time_of wcet t) q)

    -- the task finishes there no earlier
    pub best_stays : b.finish ≤ start + time → BestBelow units wcet t free held (k + 1) b
    best_stays l = kept (λ n q g. le_trans l (on_type n q g))

    -- the task finishes there earlier
    pub best_moves : k < most_types → eqb time 0 || leb b.finish (held + time) ≡ false → start + time < b.finish
        → BestBelow units wcet t free held (k + 1) (record { unit_type = k; finish = start + time })
    best_moves low f l =
        record {
          least = up_to (λ n q g. le_trans (le_of_lt l) (h.least n q g)) on_type;
          reached = λ i. record {
            low = low;
            usable_type = in_use f;
            lasts = omega arith;
            soonest = subst (Soonest free k (get_or units k 0) held) (omega arith) s;
            lower_later = λ n q g. lt_of_lt_of_le l (h.least n q g);
          };
        }

module _ {units wcet : List ℕ} {t : ℕ} {free : List ℕ} {held : ℕ} (soon : held ≤ latest) (p : Placeable units wcet t free) where
  -- no start is late
  pub start_bound : {k n start : ℕ} → Soonest free k n held start → start ≤ latest
  start_bound {k} s = omega (arith, s.reached.2, p.comes_free (slot k s.reached.0))

  -- some type is found
  pub best_found : {b : Best} → BestBelow units wcet t free held most_types b
      → Reached units wcet t free held b.unit_type b.finish
  best_found h =
      let r = some_fit p in
      h.reached (omega (arith, h.least r.0 (omega (arith, r.1)) r.2, p.comes_free r.0, p.short (type_of r.0)))

-- ---- the first unit of the best type that is free in time

module _ (free : List ℕ) (k n start : ℕ) where
  pub slot_found : {u : ℕ} → u < n → u ≡ first n (λ v. leb (from free k v) start) → Some (slot k u) ≡ first_slot free k n start
  slot_found {u} l e = rw (← e, lt-ltb u n l) refl

  pub slot_missing : n ≡ first n (λ v. leb (from free k v) start) → None ≡ first_slot free k n start
  slot_missing e = rw (← e, le-ltb n n (le_refl n)) refl

module _ {units wcet : List ℕ} {t : ℕ} {free : List ℕ} {held k finish : ℕ} (p : Placeable units wcet t free)
    (r : Reached units wcet t free held k finish) where
  abbrev start : ℕ
  start = finish - time_of wcet t k

  abbrev n : ℕ
  n = get_or units k 0

  abbrev free_then : ℕ → Bool
  free_then u = leb (from free k u) start

  abbrev unit : ℕ
  unit = first n free_then

  unit_low : unit < n
  unit_low =
      let q = r.soonest.reached in
      first_below n free_then q.0 q.1 (le-leb (from free k q.0) start (omega (arith, q.2)))

  unit_few : unit < most_units
  unit_few = lt_of_lt_of_le unit_low (p.few_units k r.usable_type)

  finish_is : finish ≡ finish_on wcet t free held (slot k unit)
  finish_is =
      rw (slot_type k unit unit_few)
      (omega (
        arith,
        r.lasts,
        r.soonest.reached.2,
        r.soonest.least unit unit_low,
        leb-true (from free k unit) start ((first_is n free_then).passes unit_low),
      ))

  -- on a unit with a lower number the task finishes later
  lower_unit : (m : ℕ) → m < slot k unit → fits units wcet t m ≡ true → finish < finish_on wcet t free held m
  lower_unit m l f =
      let below : type_of m ≤ k = omega (arith, unit_few) in
      let u = m % most_units in
      ⊎_elim
      (λ q. let i : u < unit = omega arith in
      omega (
        arith,
        r.lasts,
        rw (as_slot q) at (leb-false (from free k u) start ((first_is n free_then).searched.before u i)),
        ap (time_of wcet t) q,
      )) (λ q. r.lower_later m q f) (eq-or-lt_of_le below)

  fit : fits units wcet t (slot k unit) ≡ true
  fit = slot_fits units wcet t k unit unit_few unit_low r.usable_type

  in_array : slot k unit < most_slots
  in_array = omega (arith, unit_few, r.low)

  -- there is such a unit
  pub found : {time : ℕ} → time ≡ time_of wcet t k → {o : Option ℕ} → o ≡ first_slot free k n (finish - time) → o ≡ Some (slot k unit)
  found e f = f ∙ rw (e, lt-ltb unit n unit_low) refl

  -- it is the unit that the task takes
  pub chosen : {i time : ℕ} {o : Option ℕ}
      → ((m : ℕ) → type_of m < most_types → fits units wcet t m ≡ true → finish ≤ finish_on wcet t free held m)
      → time ≡ time_of wcet t k → o ≡ first_slot free k n (finish - time) → o ≡ Some i
      → (i ≡ unit_of units wcet t free held) × (finish ≡ finish_on wcet t free held i)
  unfolding unit_of
  chosen {i} least e f g =
      let q : i ≡ slot k unit = let h : Some i ≡ Some (slot k unit) = sym g ∙ found e f in cc in (
        q ∙ first_unique most_slots (earliest units wcet t free held) (slot k unit) (record {
          searched = record {
            within = le_of_lt in_array;
            before = λ m l. off _ (λ g. lower m l (earliest_elim units wcet t free held m g));
          };
          passes = λ l. earliest_intro units wcet t free held (slot k unit)
              (fit, λ m l g. rw finish_is at (least m (omega arith) g));
        }),
        finish_is ∙ ap (finish_on wcet t free held) (sym q),
      )
    where
      lower : (m : ℕ) → m < slot k unit → Earliest units wcet t free held m → ⊥
      lower m l h = omega (arith, finish_is, lower_unit m l h.0, h.1 (slot k unit) in_array fit)
