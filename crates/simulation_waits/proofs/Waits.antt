-- What a position waits for, as the loops find it: the latest finish of its predecessors, and the unit that is free first.
-- Assumes nothing.
use mathlib.Core.Path.{◌≡◌, refl, sym, ap, subst}
use mathlib.Core.Bool.{Bool, cond, and-true, and-false}
use mathlib.Core.List.{List}
use Prim.Native.Nat.{ℕ, ◌+◌, ◌*◌, ◌^◌, ◌≤◌, ◌<◌, max, zero-le}
use native.Mathlib.Nat.{le_refl, le_trans, le_antisymm, le_of_lt, add-zero}
use native.Mathlib.Omega.{arith}
use borrow.Author.Count.{below_more}
use borrow.Author.Tests.{eq-eqb, ne_eqb}
use lib.ListN.{get_or}
use Rattle.task_set.specs.Sets.{width, has, remove, lowest}
use Rattle.task_set.proofs.Members.{has_none, has_remove, lowest_low, lowest_member}
use Rattle.plan.specs.Rules.{most_types, most_units}
use Rattle.dispatch_theory.proofs.Sums.{greatest_lub, greatest_apart}
use Rattle.simulation_waits.specs.Waits.{latest_of, unit_index, free_from, FreeFirst}

-- ---- the latest finish of a set: its lowest member is looked at and removed

latest_none : (finishes : List ℕ) → latest_of finishes 0 ≡ 0
unfolding latest_of
latest_none finishes = le_antisymm (greatest_lub width _ 0 (λ t l. rw (has_none t) (le_refl 0))) zero-le

pub latest_end : (finishes : List ℕ) {s m x : ℕ} → s ≡ 0 → max m (latest_of finishes s) ≡ x → m ≡ x
latest_end finishes e f = omega (arith, latest_none finishes, ap (latest_of finishes) e)

module _ (s : ℕ) (fits : s < 2 ^ width) (some : s ≡ 0 → ⊥) where
  abbrev t : ℕ
  t = lowest s

  low : t < width
  low = lowest_low s fits some

  pub latest_more : (finishes : List ℕ) (m : ℕ) → max (max m (get_or finishes t 0)) (latest_of finishes (remove s t))
      ≡ max m (latest_of finishes s)
  unfolding latest_of
  latest_more finishes m =
      omega (
        arith,
        greatest_apart width (λ i. cond (has s i) (get_or finishes i 0) 0)
            (λ i. cond (has (remove s t) i) (get_or finishes i 0) 0) t low gone kept,
        ap (λ (b : Bool). cond b (get_or finishes t 0) 0) (lowest_member s fits some),
      )
    where
      gone : cond (has (remove s t) t) (get_or finishes t 0) 0 ≡ 0
      gone = rw (has_remove s t t low, eq-eqb t t refl, and-false (has s t)) refl

      kept : (i : ℕ) → i < width → (i ≡ t → ⊥) → cond (has s i) (get_or finishes i 0) 0
          ≡ cond (has (remove s t) i) (get_or finishes i 0) 0
      kept i l f = rw (has_remove s t i low, ne_eqb t i (λ e. f (sym e)), and-true (has s i)) refl

-- ---- the unit that is free first of those looked at

pub first_one : (free : List ℕ) (ty : ℕ) → FreeFirst free ty 1 (ty * most_units)
first_one free ty =
    record {
      unit = 0;
      low = le_refl 1;
      index_is = sym (add-zero (ty * most_units));
      least = λ u l. let e : u
          ≡ 0 = omega arith in rw e (le_refl _);
    }

module _ (free : List ℕ) (ty n index : ℕ) (f : FreeFirst free ty n index) where
  -- the next one is free no earlier
  pub first_stays : get_or free index 0 ≤ free_from free ty n → FreeFirst free ty (n + 1) index
  first_stays l =
      record {
        unit = f.unit;
        low = omega (arith, f.low);
        index_is = f.index_is;
        least = below_more (λ (u : ℕ). free_from free ty f.unit ≤ free_from free ty u) n f.least (rw f.index_is at l);
      }

  -- the next one is free earlier
  pub first_moves : free_from free ty n < get_or free index 0 → FreeFirst free ty (n + 1) (unit_index ty n)
  first_moves l =
      let m : free_from free ty n < free_from free ty f.unit = rw f.index_is at l in
      record {
        unit = n;
        low = omega arith;
        index_is = refl;
        least = below_more (λ (u : ℕ). free_from free ty n ≤ free_from free ty u) n
            (λ u h. le_trans (le_of_lt m) (f.least u h)) (le_refl _);
      }

  -- its place is in the array
  pub first_in_array : ty < most_types → n ≤ most_units → index < most_types * most_units
  first_in_array l m = omega (arith, f.low, f.index_is)

  -- all are looked at
  pub first_end : {m : ℕ} → n ≡ m → FreeFirst free ty m index
  first_end e = subst (λ (x : ℕ). FreeFirst free ty x index) e f
