-- Units by number, and the unit that a task takes. Assumes nothing.
use mathlib.Core.Path.{◌≡◌, ◌∙◌}
use mathlib.Core.Bool.{Bool, true, ◌&&◌}
use mathlib.Core.List.{List}
use Prim.Native.Nat.{ℕ, zero, suc, ◌%◌, ◌≤◌, ◌<◌}
use native.Mathlib.Nat.{le_refl, not-suc-le-zero}
use native.Mathlib.Omega.{arith}
use borrow.Author.Tests.{leb-true, ltb-true, ltb-false, le-leb, lt-ltb}
use lib.Dec.{ltb}
use lib.ListN.{get_or}
use Rattle.task_set.specs.Bounded.{any, first}
use Rattle.task_set.proofs.Truth.{clash, by_test, off, and_left, and_right, and_both}
use Rattle.task_set.proofs.Truth.{implies_elim, implies_intro}
use Rattle.task_set.proofs.Bounded.{all_intro, all_elim, any_intro, any_off, any_elim}
use Rattle.task_set.proofs.Search.{first_is, first_any}
use Rattle.plan.specs.Rules.{most_units, time_of, usable}
use Rattle.proposal_theory.specs.Proposals.{most_slots, type_of, fits, finish_on, earliest, unit_of}
use Rattle.proposal_theory.specs.Units.{slot}

-- ---- the numbers of units

pub slot_type : (k u : ℕ) → u < most_units → type_of (slot k u) ≡ k
slot_type k u l = omega arith

pub slot_unit : (k u : ℕ) → u < most_units → slot k u % most_units ≡ u
slot_unit k u l = omega arith

-- a number as a unit of its type
pub as_slot : {k n : ℕ} → type_of n ≡ k → slot k (n % most_units) ≡ n
as_slot e = omega arith

module _ (units wcet : List ℕ) (t : ℕ) where
  pub slot_fits : (k u : ℕ) → u < most_units → u < get_or units k 0 → usable wcet t k ≡ true → fits units wcet t (slot k u) ≡ true
  unfolding fits
  slot_fits k u l m e = rw (slot_unit k u l, slot_type k u l) (and_both (lt-ltb u (get_or units k 0) m) e)

  pub fit_unit : (n : ℕ) → fits units wcet t n ≡ true → n % most_units < get_or units (type_of n) 0
  unfolding fits
  fit_unit n e = ltb-true _ _ (and_left (ltb (n % most_units) (get_or units (type_of n) 0)) _ e)

  pub fit_lasts : (n : ℕ) → fits units wcet t n ≡ true → 0 < time_of wcet t (type_of n)
  unfolding fits usable
  fit_lasts n e = ltb-true _ _ (and_right (ltb (n % most_units) (get_or units (type_of n) 0)) _ e)

-- ---- the earliest finish

-- a search for what is there ends at it or before
pub first_below : (n : ℕ) (p : ℕ → Bool) (i : ℕ) → i < n → p i ≡ true → first n p < n
first_below n p i l e = ltb-true (first n p) n (first_any n p ∙ any_intro n p i l e)

-- one of the numbers below n that pass has the least value
pub least_of : (n : ℕ) (p : ℕ → Bool) (f : ℕ → ℕ) (b i : ℕ) → f i < b → i < n → p i ≡ true
    → (j : ℕ) × (j < n) × (p j ≡ true) × ((m : ℕ) → m < n → p m ≡ true → f j ≤ f m)
least_of n p f zero i h l e = absurd (not-suc-le-zero h)
least_of n p f (suc b) i h l e =
    by_test (any n less)
    (λ q. let r = any_elim n less q in
    least_of n p f b r.0 (falls r.0 r.2) r.1 (and_left (p r.0) _ r.2))
    (λ q. (i, l, e, λ m k g. ltb-false (f m) (f i) (off _ (λ x. clash (and_both g x) (any_off n less q m k)))))
  where
    less : ℕ → Bool
    less m = p m && ltb (f m) (f i)

    falls : (m : ℕ) → less m ≡ true → f m < b
    falls m q = omega (arith, ltb-true (f m) (f i) (and_right (p m) _ q))

module _ (units wcet : List ℕ) (t : ℕ) (free : List ℕ) (held : ℕ) where
  -- unit n fits, and on no other that fits does the task finish earlier
  abbrev pub Earliest : ℕ → Type 0
  Earliest n = (fits units wcet t n ≡ true)
      × ((m : ℕ) → m < most_slots → fits units wcet t m ≡ true → finish_on wcet t free held n ≤ finish_on wcet t free held m)

  pub earliest_intro : (n : ℕ) → Earliest n → earliest units wcet t free held n ≡ true
  unfolding earliest
  earliest_intro n h =
      and_both h.0 (all_intro most_slots _ (λ m l. implies_intro (fits units wcet t m) (λ e. le-leb _ _ (h.1 m l e))))

  pub earliest_elim : (n : ℕ) → earliest units wcet t free held n ≡ true → Earliest n
  unfolding earliest
  earliest_elim n e = (
    and_left (fits units wcet t n) _ e,
    λ m l g. leb-true _ _
        (implies_elim (fits units wcet t m) _ (all_elim most_slots _ (and_right (fits units wcet t n) _ e) m l) g),
  )

  -- the unit that is found fits, and is one of the units
  pub unit_found : ((n : ℕ) × (n < most_slots) × (fits units wcet t n ≡ true))
      → (unit_of units wcet t free held < most_slots) × (fits units wcet t (unit_of units wcet t free held) ≡ true)
      × ((n : ℕ) → n < most_slots → fits units wcet t n ≡ true
      → finish_on wcet t free held (unit_of units wcet t free held) ≤ finish_on wcet t free held n)
  unfolding unit_of
  unit_found r =
      let i = least_of most_slots (fits units wcet t) (finish_on wcet t free held) _ r.0 (le_refl _) r.1 r.2 in
      let l = first_below most_slots best i.0 i.1 (earliest_intro i.0 (i.2, i.3)) in
      let e = earliest_elim _ ((first_is most_slots best).passes l) in
      (l, e.0, e.1)
    where
      best : ℕ → Bool
      best = earliest units wcet t free held
