-- Sums and counts in another order. Assumes nothing.
use mathlib.Core.Path.{◌≡◌, refl, sym, ap, ap₂, ◌∙◌}
use mathlib.Core.Bool.{Bool, true, false, cond}
use Prim.Native.Nat.{ℕ, zero, suc, ◌+◌, ◌≤◌, ◌<◌}
use native.Mathlib.Nat.{le_trans, le_of_eq, le_antisymm, le_step, lt-suc_self, zero-add, add-zero}
use native.Mathlib.Decide.{le_ind}
use native.Mathlib.Omega.{arith}
use borrow.Author.Tests.{eq-eqb, eqb-true}
use lib.Dec.{eqb}
use Rattle.task_set.specs.Bounded.{count}
use Rattle.task_set.proofs.Truth.{off}
use Rattle.dispatch_theory.specs.Sums.{sum, greatest}
use Rattle.dispatch_theory.proofs.Sums.{sum_cong, sum_zero, greatest_lub, greatest_le}

sum_add : (n : ℕ) (f g : ℕ → ℕ) → sum n (λ i. f i + g i) ≡ sum n f + sum n g
unfolding sum
sum_add zero f g = refl
sum_add (suc n) f g = omega (arith, sum_add n f g)

-- by rows or by columns
pub sum_swap : (n m : ℕ) (h : ℕ → ℕ → ℕ) → sum n (λ i. sum m (h i)) ≡ sum m (λ t. sum n (λ i. h i t))
unfolding sum
sum_swap zero m h = sym (sum_zero m _ (λ t l. refl))
sum_swap (suc n) m h = rw (sum_swap n m h, sum_add m (λ t. sum n (λ i. h i t)) (h n))

-- nothing is added from m on
sum_upto : (m n : ℕ) (f : ℕ → ℕ) → m ≤ n → ((i : ℕ) → m ≤ i → i < n → f i ≡ 0) → sum n f ≡ sum m f
unfolding sum
sum_upto m n f =
    le_ind (λ k. ((i : ℕ) → m ≤ i → i < k → f i ≡ 0) → sum k f ≡ sum m f) (λ h. refl)
    (λ k l r h. rw (h k l (lt-suc_self k), add-zero) (r (λ i a b. h i a (le_step b)))) n

-- a sum over the numbers that pass, where a is the only one
sum_only : (n a : ℕ) (p : ℕ → Bool) (g : ℕ → ℕ) → a < n → p a ≡ true → ((t : ℕ) → t < n → p t ≡ true → t ≡ a)
    → sum n (λ t. cond (p t) (g t) 0) ≡ g a
unfolding sum
sum_only n a p g l e h =
    sum_upto (suc a) n _ l (λ t k m. other t m (λ q. omega arith))
    ∙ ap₂ ◌+◌ (sum_zero a _ (λ t k. other t (omega arith) (λ q. omega arith))) (rw e) ∙ zero-add (g a)
  where
    other : (t : ℕ) → t < n → (t ≡ a → ⊥) → cond (p t) (g t) 0 ≡ 0
    other t m f = rw (off (p t) (λ q. f (h t m q)))

pub sum_one : (n a : ℕ) (g : ℕ → ℕ) → a < n → sum n (λ t. cond (eqb a t) (g t) 0) ≡ g a
sum_one n a g l = sum_only n a (eqb a) g l (eq-eqb a a refl) (λ t m q. sym (eqb-true a t q))

-- f takes each number below n to one of them, no two to the same, and leaves none out
pub sum_reorder : (n : ℕ) (f g : ℕ → ℕ) → ((i : ℕ) → i < n → f i < n) → ((i j : ℕ) → i < n → j < n → f i ≡ f j → i ≡ j)
    → ((t : ℕ) → t < n → (i : ℕ) × (i < n) × (f i ≡ t)) → sum n (λ i. g (f i)) ≡ sum n g
sum_reorder n f g low once somewhere =
    sum_cong n _ _ (λ i l. sym (sum_one n (f i) g (low i l)))
    ∙ sum_swap n n (λ i t. cond (eqb (f i) t) (g t) 0)
    ∙ sum_cong n _ g column
  where
    column : (t : ℕ) → t < n → sum n (λ i. cond (eqb (f i) t) (g t) 0) ≡ g t
    column t l =
        let r = somewhere t l in
        sum_only n r.0 (λ i. eqb (f i) t) (λ i. g t) r.1 (eq-eqb _ _ r.2)
        (λ i m q. once i r.0 m r.1 (eqb-true _ _ q ∙ sym r.2))

-- f takes each number below n to one of them, and leaves none out
pub greatest_reorder : (n : ℕ) (f g : ℕ → ℕ) → ((i : ℕ) → i < n → f i < n) → ((t : ℕ) → t < n → (i : ℕ) × (i < n) × (f i ≡ t))
    → greatest n (λ i. g (f i)) ≡ greatest n g
greatest_reorder n f g low somewhere =
    le_antisymm (greatest_lub n (λ i. g (f i)) (greatest n g) (λ i l. greatest_le n g (f i) (low i l)))
    (greatest_lub n g (greatest n (λ i. g (f i)))
    (λ t l. let r = somewhere t l in le_trans (le_of_eq (ap g (sym r.2))) (greatest_le n (λ i. g (f i)) r.0 r.1)))

-- ---- counts are sums

pub count_sum : (n : ℕ) (p : ℕ → Bool) → count n p ≡ sum n (λ i. cond (p i) 1 0)
unfolding count sum
count_sum zero p = refl
count_sum (suc n) p = ap (λ (k : ℕ). k + cond (p n) 1 0) (count_sum n p)

pub count_reorder : (n : ℕ) (f : ℕ → ℕ) (p : ℕ → Bool) → ((i : ℕ) → i < n → f i < n)
    → ((i j : ℕ) → i < n → j < n → f i ≡ f j → i ≡ j)
    → ((t : ℕ) → t < n → (i : ℕ) × (i < n) × (f i ≡ t)) → count n (λ i. p (f i)) ≡ count n p
count_reorder n f p low once somewhere =
    count_sum n _ ∙ sum_reorder n f (λ t. cond (p t) 1 0) low once somewhere ∙ sym (count_sum n p)

pub count_upto : (m n : ℕ) (p : ℕ → Bool) → m ≤ n → ((i : ℕ) → m ≤ i → i < n → p i ≡ false) → count n p ≡ count m p
count_upto m n p l h =
    count_sum n p ∙ sum_upto m n _ l (λ i k b. rw (h i k b)) ∙ sym (count_sum m p)
