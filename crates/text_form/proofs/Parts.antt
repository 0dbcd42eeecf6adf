-- The first part of a list, and the parts after it. Assumes nothing.
use mathlib.Core.Path.{◌≡◌, refl, sym, ap, subst, ◌∙◌}
use mathlib.Core.Bool.{Bool, true, false, cond}
use mathlib.Core.List.{List, [], ◌∷◌}
use mathlib.Core.Logic.{⊎_elim}
use Prim.Native.Nat.{ℕ, suc, ◌+◌, ◌-◌, ◌≤◌, ◌<◌, zero-le, suc-le-suc}
use native.Mathlib.Nat.{le_of_suc-le-suc, not-suc-le-zero}
use native.Mathlib.Numerals.{add-one}
use native.Mathlib.Omega.{arith}
use lib.Dec.{eqb, ltb}
use lib.ListN.{length, get_or, take, drop, length-drop}
use lib.Seq.{drop-cons, drop-drop, take_all, length-take-le}
use borrow.Author.Tests.{eq-eqb, ne_eqb, ltb-true, ltb-false}
use Rattle.std.specs.List.{position_or_len}
use Rattle.std.specs.Slice.{IsGetRangeResult}
use Rattle.std.proofs.Common.{Bor, Option, Some, None, position}
use Rattle.std.proofs.lemmas.List.Recursion.{is_position_or_len}
use Rattle.task_set.proofs.Truth.{by_test}
use Rattle.text_form.specs.Form.{prepend, split}
use Rattle.text_form.specs.Steps.{part_length, first_part}

-- the part of a list from a on, as a slice has it
pub from_on : (s : List ℕ) (a : ℕ) → take (length s - a) (drop a s) ≡ drop a s
from_on s a = take_all (length s - a) (drop a s) (omega (arith, length-drop a s))

pub got_from : (s : List ℕ) (a : ℕ) {r : Option (Bor (List ℕ))} {x : Bor (List ℕ)} → IsGetRangeResult s a (length s) r → r ≡ Some x
    → x.now ≡ drop a s
got_from s a {r} {x} h e = (subst (IsGetRangeResult s a (length s)) e h).0.2 ∙ from_on s a

pub got_none : (s : List ℕ) (a : ℕ) {r : Option (Bor (List ℕ))} → IsGetRangeResult s a (length s) r → r ≡ None → length s ≤ a
got_none s a h e = ⊎_elim (λ l. omega arith) (λ l. omega arith) (subst (IsGetRangeResult s a (length s)) e h).0

-- what follows n bytes and one more
pub drop_past : (s : List ℕ) (a n : ℕ) → drop (n + 1) (drop a s) ≡ drop (a + n + 1) s
drop_past s a n = let e : a + (n + 1) ≡ a + n + 1 = omega arith in drop-drop (n + 1) a s ∙ ap (λ (k : ℕ). drop k s) e

module _ (separator : ℕ) where
  pub part_within : (s : List ℕ) → part_length separator s ≤ length s
  unfolding part_length
  part_within [] = zero-le
  part_within (b ∷ s) = go (eqb b separator) (part_within s)
    where
      go : (t : Bool) → part_length separator s ≤ length s → cond t 0 (suc (part_length separator s)) ≤ suc (length s)
      go true l = zero-le
      go false l = suc-le-suc l

  pub part_length_lem : (s : List ℕ) → length (first_part separator s) ≡ part_length separator s
  part_length_lem s = length-take-le (part_length separator s) s (part_within s)

  -- it ends where the separator stands first
  part_is : (s : List ℕ) → part_length separator s ≡ position_or_len (λ b. eqb b separator) s
  unfolding part_length
  part_is = is_position_or_len (part_length separator) (λ b. eqb b separator) refl
      (λ b s. ap (cond (eqb b separator) 0) (omega arith))

  pub part_position : (s : List ℕ) → position (λ b. eqb b separator) s
      ≡ cond (ltb (part_length separator s) (length s)) (Some (part_length separator s)) None
  part_position s = rw (← part_is s)

  -- ---- the search for a separator

  module _ (s : List ℕ) (i : ℕ) where
    pub part_found : i < length s → get_or s i 0 ≡ separator → part_length separator (drop i s) ≡ 0
    unfolding part_length
    part_found l e = rw (drop-cons s i 0 l) (simp (eq-eqb _ _ e))

    pub part_more : i < length s → (get_or s i 0 ≡ separator → ⊥)
        → part_length separator (drop i s) ≡ suc (part_length separator (drop (i + 1) s))
    unfolding part_length
    part_more l e = rw (add-one i, drop-cons s i 0 l) (simp (ne_eqb _ _ e))

  -- ---- the parts

  -- no separator: the list is the one part
  split_whole : (s : List ℕ) → length s ≤ part_length separator s → split separator s ≡ s ∷ []
  unfolding split part_length
  split_whole [] l = refl
  split_whole (b ∷ s) l = go (eqb b separator) l (split_whole s)
    where
      go : (t : Bool) → suc (length s) ≤ cond t 0 (suc (part_length separator s))
          → (length s ≤ part_length separator s → split separator s ≡ s ∷ [])
          → cond t ([] ∷ split separator s) (prepend b (split separator s)) ≡ (b ∷ s) ∷ []
      go true l ih = absurd (not-suc-le-zero l)
      go false l ih = ap (prepend b) (ih (le_of_suc-le-suc l))

  pub split_last : (s : List ℕ) → length s ≤ part_length separator s → split separator s ≡ first_part separator s ∷ []
  split_last s l = split_whole s l ∙ ap (λ (x : List ℕ). x ∷ []) (sym (take_all (part_length separator s) s l))

  -- a separator ends the first part
  pub split_more : (s : List ℕ) → part_length separator s < length s
      → split separator s ≡ first_part separator s ∷ split separator (drop (part_length separator s + 1) s)
  unfolding split part_length
  split_more [] l = absurd (not-suc-le-zero l)
  split_more (b ∷ s) l = rw (add-one (part_length separator (b ∷ s))) (go (eqb b separator) l (split_more s))
    where
      go : (t : Bool) → cond t 0 (suc (part_length separator s)) < suc (length s)
          → (part_length separator s < length s
          → split separator s ≡ first_part separator s ∷ split separator (drop (part_length separator s + 1) s))
          → cond t ([] ∷ split separator s) (prepend b (split separator s))
          ≡ take (cond t 0 (suc (part_length separator s))) (b ∷ s)
          ∷ split separator (drop (cond t 0 (suc (part_length separator s))) s)
      go true l ih = refl
      go false l ih = ap (prepend b) (ih (le_of_suc-le-suc l)) ∙ rw (add-one (part_length separator s))

  -- there is a first part
  pub split_first : (s : List ℕ) → (parts : List (List ℕ)) × (split separator s ≡ first_part separator s ∷ parts)
  split_first s =
      by_test (ltb (part_length separator s) (length s))
      (λ e. (split separator (drop (part_length separator s + 1) s), split_more s (ltb-true _ _ e)))
      (λ e. ([], split_last s (ltb-false _ _ e)))
