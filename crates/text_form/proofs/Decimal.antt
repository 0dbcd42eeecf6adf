-- Digits read one by one, and the field that they make. Assumes nothing.
use mathlib.Core.Path.{◌≡◌, refl, sym, ap, ◌∙◌}
use mathlib.Core.Bool.{Bool, true, false, cond, ◌&&◌, ◌||◌, not, and-true, and-false, and_assoc}
use mathlib.Core.List.{List, [], ◌∷◌, ◌++◌}
use mathlib.Core.Logic.{⊎_elim}
use Prim.Native.Nat.{ℕ, zero, suc, ◌+◌, ◌*◌, ◌^◌, ◌≤◌, ◌<◌, zero-le}
use native.Mathlib.Nat.{le_of_suc-le-suc, not-suc-le-zero, pow-le-pow_right, pow-succ'}
use native.Mathlib.Numerals.{add-one}
use native.Mathlib.Omega.{arith}
use lib.Dec.{eqb, leb, ltb, lit<}
use lib.ListN.{length, get_or, take}
use lib.Seq.{take-suc, length-take-le, get_or-take}
use borrow.Author.Tests.{eq-eqb, ne_eqb, le-leb, lt-leb, leb-true, ltb-true, ltb-false, eqb-true, eqb-false, not-true, not-false}
use Rattle.std.proofs.Common.{Some, None}
use Rattle.task_set.proofs.Truth.{clash, by_test, off, and_left, and_right, and_both, or_cases, or_left_off, or_right_off}
use Rattle.text_form.specs.Form.{tab, is_digit, digit_value, most_digits, every, is_field, value_from}
use Rattle.text_form.specs.Steps.{part_length, first_part, Digits, field_of}
use Rattle.text_form.proofs.Parts.{part_length_lem}

-- ---- one digit more

all_last : (s : List ℕ) (b : ℕ) → every is_digit (s ++ (b ∷ [])) ≡ every is_digit s && is_digit b
unfolding every
all_last [] b = and-true (is_digit b)
all_last (a ∷ s) b = ap (◌&&◌ (is_digit a)) (all_last s b) ∙ sym (and_assoc (is_digit a) (every is_digit s) (is_digit b))

value_last : (v : ℕ) (s : List ℕ) (b : ℕ) → value_from v (s ++ (b ∷ [])) ≡ value_from v s * 10 + digit_value b
unfolding value_from
value_last v [] b = refl
value_last v (a ∷ s) b = value_last (v * 10 + digit_value a) s b

pub digit_small : (b : ℕ) → is_digit b ≡ true → digit_value b ≤ 9
digit_small b e = omega (arith, leb-true b 57 (and_right (leb 48 b) (leb b 57) e))

pub digits_none : (s : List ℕ) → Digits s 0 0
unfolding every value_from
digits_none s = record { within = zero-le; few = zero-le; digits = refl; value = refl; small = lit< tt }

module _ {s : List ℕ} {n v : ℕ} (d : Digits s n v) where
  -- the value of so few digits is small
  pub value_fits : v < 10 ^ most_digits
  value_fits = omega (arith, d.small, pow-le-pow_right {n = 10} (lit< tt) d.few)

  pub digits_more : n < length s → eqb n most_digits || not (is_digit (get_or s n 0)) ≡ false
      → Digits s (n + 1) (v * 10 + digit_value (get_or s n 0))
  digits_more l g =
      let f : n ≡ most_digits → ⊥ = eqb-false n most_digits (or_left_off (eqb n most_digits) (not (is_digit (get_or s n 0))) g) in
      let e : is_digit (get_or s n 0) ≡ true = not-false (is_digit (get_or s n 0)) (or_right_off (eqb n most_digits) (not (is_digit (get_or s n 0))) g) in
      let t : take (n + 1) s ≡ take n s ++ (get_or s n 0 ∷ []) = rw (add-one n) (take-suc s n 0 l) in
      record {
        within = omega arith;
        few = omega (arith, d.few);
        digits = ap (every is_digit) t ∙ all_last (take n s) (get_or s n 0) ∙ and_both d.digits e;
        value = ap (λ (x : ℕ). x * 10 + digit_value (get_or s n 0)) d.value
            ∙ sym (ap (value_from 0) t ∙ value_last 0 (take n s) (get_or s n 0));
        small = rw (add-one n) (omega (arith, d.small, digit_small (get_or s n 0) e, pow-succ' 10 n));
      }

  -- ---- the field of the digits

  long : length (take n s) ≡ n
  long = length-take-le n s d.within

  pub field_empty : n ≡ 0 → field_of (take n s) ≡ None
  unfolding field_of is_field
  field_empty e = rw long (rw e refl)

  -- no leading zero: one digit, or not a zero first
  lead : (z : Bool) → 1 ≤ n → eqb n 1 || not z ≡ not (ltb 1 n && z)
  lead z l =
      by_test (ltb 1 n) (λ e. rw (e, ne_eqb n 1 (λ f. omega (arith, ltb-true 1 n e))))
      (λ e. rw (e, eq-eqb n 1 (omega (arith, ltb-false 1 n e))))

  pub field_ended : (n ≡ 0 → ⊥) → field_of (take n s) ≡ cond (not (ltb 1 n && eqb (get_or s 0 0) 48)) (Some (record { value = v; digits = n })) None
  unfolding field_of is_field
  field_ended f =
      let l : 1 ≤ n = omega (arith, f) in
      rw (long, d.digits, le-leb 1 n l, le-leb n most_digits d.few, get_or-take n s 0 0 l, ← d.value)
      (rw (lead (eqb (get_or s 0 0) 48) l))

-- ---- what is no field

digit_at : (s : List ℕ) (i : ℕ) → i < length s → every is_digit s ≡ true → is_digit (get_or s i 0) ≡ true
unfolding every
digit_at [] i l e = absurd (not-suc-le-zero l)
digit_at (b ∷ s) zero l e = and_left (is_digit b) (every is_digit s) e
digit_at (b ∷ s) (suc i) l e = digit_at s i (le_of_suc-le-suc l) (and_right (is_digit b) (every is_digit s) e)

module _ (s : List ℕ) (n : ℕ) (l : n < part_length tab s) where
  odd : is_digit (get_or s n 0) ≡ false → field_of (first_part tab s) ≡ None
  unfolding field_of is_field
  odd e =
      let same : get_or (first_part tab s) n 0 ≡ get_or s n 0 = get_or-take (part_length tab s) s n 0 l in
      let f : every is_digit (first_part tab s) ≡ false =
      off _ (λ a. clash (sym (ap is_digit same) ∙ digit_at (first_part tab s) n (rw (part_length_lem tab s) l) a) e) in
      simp (f, and-false)

  long_part : n ≡ most_digits → field_of (first_part tab s) ≡ None
  unfolding field_of is_field
  long_part e =
      rw (lt-leb (length (first_part tab s)) most_digits (omega (arith, part_length_lem tab s)))
      (rw (and-false (leb 1 (length (first_part tab s)))))

  pub field_stopped : eqb n most_digits || not (is_digit (get_or s n 0)) ≡ true → field_of (first_part tab s) ≡ None
  field_stopped e =
      ⊎_elim (λ g. long_part (eqb-true n most_digits g)) (λ g. odd (not-true _ g))
      (or_cases (eqb n most_digits) (not (is_digit (get_or s n 0))) e)
