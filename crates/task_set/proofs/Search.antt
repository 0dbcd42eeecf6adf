-- `first`, and the loop that computes it: go up from 0, leave at the first number that passes, or at the end. Assumes nothing.
use mathlib.Core.Path.{◌≡◌, refl, sym, ◌∙◌}
use mathlib.Core.Logic.{⊎_elim}
use mathlib.Core.Bool.{Bool, true, false, cond}
use Prim.Native.Nat.{ℕ, zero, suc, ◌+◌, ◌≤◌, ◌<◌, zero-le, suc-le-suc}
use native.Mathlib.Nat.{eq-or-lt_of_le, le_of_suc-le-suc, not-suc-le-zero, le_refl, lt_of_lt_of_le}
use native.Mathlib.Omega.{arith}
use borrow.Author.Count.{below_more}
use borrow.Author.Tests.{lt-ltb, le-ltb, ltb-true, ltb-false}
use lib.Dec.{ltb}
use Rattle.std.specs.Prelude.{Some, None}
use Rattle.std.proofs.lemmas.Option.{cond_some, none-some}
use Rattle.task_set.specs.Bounded.{any, first, found}
use Rattle.task_set.proofs.Truth.{clash, by_test, same}
use Rattle.task_set.proofs.Bounded.{any_intro, any_elim}

-- a search over the numbers below n that has come to i: none before i passes
pub record Searched (n : ℕ) (p : ℕ → Bool) (i : ℕ) : Type 0 where
  pub within : i ≤ n
  pub before : (j : ℕ) → j < i → p j ≡ false

-- r is where the search ends: at a number that passes, or at n
pub record First (n : ℕ) (p : ℕ → Bool) (r : ℕ) : Type 0 where
  pub searched : Searched n p r
  pub passes : r < n → p r ≡ true

-- ---- `first` is where it ends, and there is one such number

pub first_is : (n : ℕ) (p : ℕ → Bool) → First n p (first n p)
unfolding first
first_is zero p =
    record {
      searched = record { within = zero-le; before = λ j l. absurd (not-suc-le-zero l) };
      passes = λ l. absurd (not-suc-le-zero l);
    }
first_is (suc n) p = go (p 0) refl (first_is n (λ i. p (suc i)))
  where
    later : (r j : ℕ) → p 0 ≡ false → ((i : ℕ) → i < r → p (suc i) ≡ false) → j < suc r → p j ≡ false
    later r zero e h l = e
    later r (suc j) e h l = h j (le_of_suc-le-suc l)

    go : (b : Bool) → p 0 ≡ b → First n (λ i. p (suc i)) (first n (λ i. p (suc i)))
        → First (suc n) p (cond b 0 (suc (first n (λ i. p (suc i)))))
    go true e f =
        record { searched = record { within = zero-le; before = λ j l. absurd (not-suc-le-zero l) }; passes = λ l. e }
    go false e f =
        record {
          searched = record {
            within = suc-le-suc f.searched.within;
            before = λ j. later (first n (λ i. p (suc i))) j e f.searched.before;
          };
          passes = λ l. f.passes (le_of_suc-le-suc l);
        }

-- no end of the search comes before another
not_before : (n : ℕ) (p : ℕ → Bool) (r s : ℕ) → First n p r → Searched n p s → r < s → ⊥
not_before n p r s f g l = clash (f.passes (lt_of_lt_of_le l g.within)) (g.before r l)

pub first_unique : (n : ℕ) (p : ℕ → Bool) (r : ℕ) → First n p r → r ≡ first n p
first_unique n p r f =
    by_test (ltb r (first n p)) (λ e. absurd (not_before n p r (first n p) f (first_is n p).searched (ltb-true r (first n p) e)))
    (λ e. by_test (ltb (first n p) r)
    (λ g. absurd (not_before n p (first n p) r (first_is n p) f.searched (ltb-true (first n p) r g)))
    (λ g. omega (arith, ltb-false r (first n p) e, ltb-false (first n p) r g)))

pub first_cong : (n : ℕ) (p q : ℕ → Bool) → ((i : ℕ) → i < n → p i ≡ q i) → first n p ≡ first n q
first_cong n p q h = first_unique n q (first n p) (go (first_is n p))
  where
    go : First n p (first n p) → First n q (first n p)
    go f =
        record {
          searched = record {
            within = f.searched.within;
            before = λ j l. sym (h j (lt_of_lt_of_le l f.searched.within)) ∙ f.searched.before j l;
          };
          passes = λ l. sym (h (first n p) l) ∙ f.passes l;
        }

-- ---- the loop

pub searched_none : {n : ℕ} {p : ℕ → Bool} → Searched n p 0
searched_none = record { within = zero-le; before = λ j l. absurd (not-suc-le-zero l) }

pub searched_more : {n : ℕ} {p : ℕ → Bool} {i : ℕ} → Searched n p i → i < n → p i ≡ false → Searched n p (i + 1)
searched_more {n} {p} {i} h l e = record { within = omega arith; before = below_more (λ (j : ℕ). p j ≡ false) i h.before e }

pub search_found : {n : ℕ} {p : ℕ → Bool} {i : ℕ} → Searched n p i → p i ≡ true → i ≡ first n p
search_found {n} {p} {i} h e = first_unique n p i (record { searched = h; passes = λ l. e })

pub search_ended : {n : ℕ} {p : ℕ → Bool} {i : ℕ} → Searched n p i → n ≤ i → n ≡ first n p
search_ended {n} {p} {i} h l =
    first_unique n p n
    (record {
      searched = record { within = le_refl n; before = λ j m. h.before j (lt_of_lt_of_le m l) };
      passes = λ m. absurd (omega arith);
    })

-- the end of the search as `found` has it
pub found_at : {n : ℕ} {p : ℕ → Bool} {i : ℕ} → Searched n p i → i < n → p i ≡ true → Some i ≡ found n p
unfolding found
found_at {n} {p} {i} h l e = rw (sym (search_found h e), lt-ltb i n l) refl

pub found_none : {n : ℕ} {p : ℕ → Bool} {i : ℕ} → Searched n p i → n ≤ i → None ≡ found n p
unfolding found
found_none {n} {p} {i} h l = rw (sym (search_ended h l), le-ltb n n (le_refl n)) refl

-- what `found` tells of `first`
pub found_some : (n : ℕ) (p : ℕ → Bool) {i : ℕ} → Some i ≡ found n p → (i ≡ first n p) × (i < n)
unfolding found
found_some n p {i} e =
    let q = cond_some (ltb (first n p) n) (first n p) i (sym e) in
    (sym q.1, rw (sym q.1) (ltb-true (first n p) n q.0))

pub found_not : (n : ℕ) (p : ℕ → Bool) → None ≡ found n p → n ≤ first n p
unfolding found
found_not n p e =
    by_test (ltb (first n p) n) (λ f. absurd (none-some (first n p) (rw f at e))) (λ f. ltb-false (first n p) n f)

-- nothing passes at all
pub first_absent : (n : ℕ) (p : ℕ → Bool) → ((i : ℕ) → i < n → p i ≡ false) → n ≡ first n p
first_absent n p h = search_ended (record { within = le_refl n; before = h }) (le_refl n)

-- ---- what a result tells

-- nothing passes below the bound
pub first_none : (n : ℕ) (p : ℕ → Bool) → n ≤ first n p → (i : ℕ) → i < n → p i ≡ false
first_none n p l i m = (first_is n p).searched.before i (lt_of_lt_of_le m l)

-- a search ends below its bound exactly if some number passes
pub first_any : (n : ℕ) (p : ℕ → Bool) → ltb (first n p) n ≡ any n p
first_any n p =
    same _ _ (λ e. let l = ltb-true _ _ e in any_intro n p (first n p) l ((first_is n p).passes l))
    (λ e. let r = any_elim n p e in
    by_test (ltb (first n p) n) (λ f. f) (λ f. absurd (clash r.2 (first_none n p (ltb-false _ _ f) r.0 r.1))))

-- a search that would pass at its bound ends at a number that passes
pub first_passes : {n : ℕ} {p : ℕ → Bool} {r : ℕ} → First n p r → p n ≡ true → p r ≡ true
first_passes f e = ⊎_elim (λ q. rw q e) f.passes (eq-or-lt_of_le f.searched.within)
