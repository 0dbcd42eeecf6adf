-- The laws of `all`, `any` and `count`. Assumes nothing.
use mathlib.Core.Path.{◌≡◌, refl, sym, ap, ap₂, ◌∙◌, subst}
use mathlib.Core.Bool.{Bool, true, false, cond, ◌&&◌, ◌||◌, not, and-true, and_assoc, or-false}
use mathlib.Core.Logic.{◌⊎◌, inl, inr}
use Prim.Native.Nat.{ℕ, zero, suc, ◌+◌, ◌*◌, ◌≤◌, ◌<◌, zero-le}
use native.Mathlib.Nat.{add-le-add, add-zero, add-suc, zero-mul, suc-mul, le_refl, le_trans, le_of_eq, le_of_suc-le-suc, not-suc-le-zero, le_step, lt-suc_self, eq-or-lt_of_le}
use native.Mathlib.Decide.{le_ind}
use native.Mathlib.Numerals.{add-one}
use native.Mathlib.Omega.{arith}
use borrow.Author.Tests.{eq-eqb, eqb-true, ne_eqb, ltb-true, ltb-false, lt-ltb}
use lib.Dec.{eqb, ltb}
use Rattle.task_set.specs.Bounded.{all, any, count}
use Rattle.task_set.proofs.Truth.{clash, by_test, off, same, and_left, and_right, or_left, or_right, or_cases, or_none}

-- what holds below n and at n holds below suc n
pub below_suc : (P : ℕ → Type 0) (n : ℕ) → ((i : ℕ) → i < n → P i) → P n → (i : ℕ) → i < suc n → P i
below_suc P n f e i l = go (eq-or-lt_of_le (le_of_suc-le-suc l))
  where
    go : (i ≡ n) ⊎ (i < n) → P i
    go (inl q) = subst P (sym q) e
    go (inr m) = f i m

-- another number than k is below k exactly if it is below its successor
pub other_below : (x k : ℕ) → (x ≡ k → ⊥) → ltb x k ≡ ltb x (suc k)
other_below x k f =
    same (ltb x k) (ltb x (suc k)) (λ e. lt-ltb x (suc k) (omega (arith, ltb-true x k e)))
    (λ e. lt-ltb x k (omega (arith, f, ltb-true x (suc k) e)))

-- ---- every

pub all_intro : (n : ℕ) (p : ℕ → Bool) → ((i : ℕ) → i < n → p i ≡ true) → all n p ≡ true
unfolding all
all_intro zero p h = refl
all_intro (suc n) p h = ap₂ ◌&&◌ (all_intro n p (λ i l. h i (le_step l))) (h n (lt-suc_self n))

pub all_elim : (n : ℕ) (p : ℕ → Bool) → all n p ≡ true → (i : ℕ) → i < n → p i ≡ true
unfolding all
all_elim zero p e i l = absurd (not-suc-le-zero l)
all_elim (suc n) p e i l =
    below_suc (λ i. p i ≡ true) n (all_elim n p (and_left (all n p) (p n) e)) (and_right (all n p) (p n) e) i l

pub all_cong : (n : ℕ) (p q : ℕ → Bool) → ((i : ℕ) → i < n → p i ≡ q i) → all n p ≡ all n q
unfolding all
all_cong zero p q h = refl
all_cong (suc n) p q h = ap₂ ◌&&◌ (all_cong n p q (λ i l. h i (le_step l))) (h n (lt-suc_self n))

-- every one passes both tests: every one passes each
pub all_both : (n : ℕ) (p q : ℕ → Bool) → all n (λ i. p i && q i) ≡ all n p && all n q
unfolding all
all_both zero p q = refl
all_both (suc n) p q = ap (λ (b : Bool). b && (p n && q n)) (all_both n p q) ∙ go (all n p) (all n q) (p n)
  where
    go : (a b c : Bool) → (a && b) && (c && q n) ≡ (a && c) && (b && q n)
    go true true c = refl
    go true false true = refl
    go true false false = refl
    go false b c = refl

-- those below n, and m more
all_plus : (n m : ℕ) (p : ℕ → Bool) → all (n + m) p ≡ all n p && all m (λ i. p (n + i))
unfolding all
all_plus n zero p = rw (add-zero, and-true)
all_plus n (suc m) p = rw (add-suc, all_plus n m p, and_assoc)

-- n rows of m in one
pub all_rows : (n m : ℕ) (p : ℕ → Bool) → all n (λ i. all m (λ j. p (i * m + j))) ≡ all (n * m) p
unfolding all
all_rows zero m p = rw zero-mul
all_rows (suc n) m p = rw (all_rows n m p, suc-mul, all_plus)

-- a loop's next step
pub all_next : (n : ℕ) (p : ℕ → Bool) → all (n + 1) p ≡ all n p && p n
unfolding all
all_next n p = ap (λ (k : ℕ). all k p) (add-one n)

-- ---- some

pub any_intro : (n : ℕ) (p : ℕ → Bool) (i : ℕ) → i < n → p i ≡ true → any n p ≡ true
unfolding any
any_intro zero p i l e = absurd (not-suc-le-zero l)
any_intro (suc n) p i l e =
    below_suc (λ i. p i ≡ true → any n p || p n ≡ true) n (λ i m f. or_left (p n) (any_intro n p i m f))
    (or_right (any n p)) i l e

pub any_none : (n : ℕ) (p : ℕ → Bool) → ((i : ℕ) → i < n → p i ≡ false) → any n p ≡ false
unfolding any
any_none zero p h = refl
any_none (suc n) p h = or_none (any_none n p (λ i l. h i (le_step l))) (h n (lt-suc_self n))

pub any_off : (n : ℕ) (p : ℕ → Bool) → any n p ≡ false → (i : ℕ) → i < n → p i ≡ false
any_off n p e i l = off (p i) (λ f. clash (any_intro n p i l f) e)

pub any_elim : (n : ℕ) (p : ℕ → Bool) → any n p ≡ true → (i : ℕ) × (i < n) × (p i ≡ true)
unfolding any
any_elim zero p e = absurd (clash e refl)
any_elim (suc n) p e = go (or_cases (any n p) (p n) e) (any_elim n p)
  where
    go : (any n p ≡ true) ⊎ (p n ≡ true) → (any n p ≡ true → (i : ℕ) × (i < n) × (p i ≡ true))
        → (i : ℕ) × (i < suc n) × (p i ≡ true)
    go (inl f) ih = let r = ih f in (r.0, le_step r.1, r.2)
    go (inr f) ih = (n, lt-suc_self n, f)

pub any_cong : (n : ℕ) (p q : ℕ → Bool) → ((i : ℕ) → i < n → p i ≡ q i) → any n p ≡ any n q
unfolding any
any_cong zero p q h = refl
any_cong (suc n) p q h = ap₂ ◌||◌ (any_cong n p q (λ i l. h i (le_step l))) (h n (lt-suc_self n))

-- not every one passes: some one does not
pub not_all : (n : ℕ) (p : ℕ → Bool) → not (all n p) ≡ any n (λ i. not (p i))
unfolding all any
not_all zero p = refl
not_all (suc n) p = go (all n p) (p n) ∙ ap (λ (b : Bool). b || not (p n)) (not_all n p)
  where
    go : (a b : Bool) → not (a && b) ≡ not a || not b
    go true b = refl
    go false b = refl

-- a loop's next step
pub any_next : (n : ℕ) (p : ℕ → Bool) → any (n + 1) p ≡ any n p || p n
unfolding any
any_next n p = ap (λ (k : ℕ). any k p) (add-one n)

pub any_step : (n : ℕ) {a b : Bool} (p : ℕ → Bool) → a ≡ any n p → b ≡ p n → a || b ≡ any (n + 1) p
any_step n p e f = ap₂ ◌||◌ e f ∙ sym (any_next n p)

-- ---- how many

pub count_cong : (n : ℕ) (p q : ℕ → Bool) → ((i : ℕ) → i < n → p i ≡ q i) → count n p ≡ count n q
unfolding count
count_cong zero p q h = refl
count_cong (suc n) p q h =
    ap₂ (λ (k : ℕ) (b : Bool). k + cond b 1 0) (count_cong n p q (λ i l. h i (le_step l))) (h n (lt-suc_self n))

-- the count begun at 0 instead of ended at n
pub count_front : (n : ℕ) (p : ℕ → Bool) → count (suc n) p ≡ cond (p 0) 1 0 + count n (λ i. p (suc i))
unfolding count
count_front zero p = omega arith
count_front (suc n) p = omega (arith, count_front n p)

pub count_none : (n : ℕ) (p : ℕ → Bool) → ((i : ℕ) → i < n → p i ≡ false) → count n p ≡ 0
unfolding count
count_none zero p h = refl
count_none (suc n) p h =
    ap₂ (λ (k : ℕ) (b : Bool). k + cond b 1 0) (count_none n p (λ i l. h i (le_step l))) (h n (lt-suc_self n))

pub count_le : (n : ℕ) (p : ℕ → Bool) → count n p ≤ n
unfolding count
count_le zero p = zero-le
count_le (suc n) p = go (p n) (count_le n p)
  where
    go : (b : Bool) → count n p ≤ n → count n p + cond b 1 0 ≤ suc n
    go true l = omega arith
    go false l = omega arith

-- as many as there are numbers: each of them
pub count_full : (n : ℕ) (p : ℕ → Bool) → count n p ≡ n → (i : ℕ) → i < n → p i ≡ true
unfolding count
count_full zero p e i l = absurd (not-suc-le-zero l)
count_full (suc n) p e i l = go (p n) refl e (count_full n p)
  where
    go : (b : Bool) → p n ≡ b → count n p + cond b 1 0 ≡ suc n → (count n p ≡ n → (i : ℕ) → i < n → p i ≡ true) → p i ≡ true
    go true f e ih = below_suc (λ i. p i ≡ true) n (ih (omega arith)) f i l
    go false f e ih = absurd (omega (arith, count_le n p))

pub count_every : (n : ℕ) (p : ℕ → Bool) → ((i : ℕ) → i < n → p i ≡ true) → count n p ≡ n
unfolding count
count_every zero p h = refl
count_every (suc n) p h =
    ap₂ (λ (k : ℕ) (b : Bool). k + cond b 1 0) (count_every n p (λ i l. h i (le_step l))) (h n (lt-suc_self n)) ∙ add-one n

-- all of them are counted exactly if each passes
pub count_all : (n : ℕ) (p : ℕ → Bool) → eqb (count n p) n ≡ all n p
count_all n p =
    same (eqb (count n p) n) (all n p) (λ e. all_intro n p (count_full n p (eqb-true _ _ e)))
    (λ e. eq-eqb _ _ (count_every n p (all_elim n p e)))

-- one that does not pass leaves fewer than all
pub count_short : (n : ℕ) (p : ℕ → Bool) (i : ℕ) → i < n → p i ≡ false → count n p < n
count_short n p i l e =
    by_test (ltb (count n p) n) (ltb-true _ _)
    (λ f. absurd (clash (count_full n p (omega (arith, count_le n p, ltb-false (count n p) n f)) i l) e))

-- one number more
pub count_more : (n : ℕ) (p : ℕ → Bool) (t : ℕ) → t < n → p t ≡ false → count n (λ i. p i || eqb t i) ≡ suc (count n p)
unfolding count
count_more zero p t l e = absurd (not-suc-le-zero l)
count_more (suc n) p t l e = go (eq-or-lt_of_le (le_of_suc-le-suc l)) (count_more n p t)
  where
    others : (i : ℕ) → i < n → t ≡ n → p i || eqb t i ≡ p i
    others i m q = ap (λ (b : Bool). p i || b) (ne_eqb t i (λ f. omega arith)) ∙ or-false (p i)

    at : (x : Bool) → p n || x ≡ true → p n ≡ false → count n p + cond (p n || x) 1 0 ≡ suc (count n p + cond (p n) 1 0)
    at x f g = rw (f, g) (omega arith)

    go : (t ≡ n) ⊎ (t < n) → (t < n → p t ≡ false → count n (λ i. p i || eqb t i) ≡ suc (count n p))
        → count n (λ i. p i || eqb t i) + cond (p n || eqb t n) 1 0 ≡ suc (count n p + cond (p n) 1 0)
    go (inl q) ih =
        rw (count_cong n (λ i. p i || eqb t i) p (λ i m. others i m q))
        (at (eqb t n) (or_right (p n) (eq-eqb t n q)) (subst (λ (x : ℕ). p x ≡ false) q e))
    go (inr m) ih = rw (ih m e, ne_eqb t n (λ f. omega arith), or-false (p n)) (omega arith)

pub count_mono : (n : ℕ) (p q : ℕ → Bool) → ((i : ℕ) → i < n → p i ≡ true → q i ≡ true) → count n p ≤ count n q
unfolding count
count_mono zero p q h = zero-le
count_mono (suc n) p q h =
    add-le-add (count_mono n p q (λ i l. h i (le_step l)))
    (by_test (p n) (λ e. rw (e, h n (lt-suc_self n) e) (le_refl 1)) (λ e. rw e zero-le))

-- where fewer than b pass before each number that passes, no more than b pass
pub count_bound : (n : ℕ) (p : ℕ → Bool) (b : ℕ) → ((m : ℕ) → m < n → p m ≡ true → count m p < b) → count n p ≤ b
unfolding count
count_bound zero p b h = zero-le
count_bound (suc n) p b h =
    by_test (p n) (λ e. rw e (omega (arith, h n (lt-suc_self n) e)))
    (λ e. rw e (omega (arith, count_bound n p b (λ m l. h m (le_step l)))))

-- no fewer below a greater number, and more past one that passes
count_grows : (k n : ℕ) (p : ℕ → Bool) → k ≤ n → count k p ≤ count n p
unfolding count
count_grows k n p = le_ind (λ m. count k p ≤ count m p) (le_refl (count k p)) (λ m l h. omega (arith, h)) n

pub count_less : (n : ℕ) (p : ℕ → Bool) (k : ℕ) → k < n → p k ≡ true → count k p < count n p
unfolding count
count_less n p k l e = le_trans (rw e (omega arith)) (count_grows (suc k) n p l)

-- nothing passes from n on
pub count_past : (n m : ℕ) (p : ℕ → Bool) → n ≤ m → ((i : ℕ) → n ≤ i → i < m → p i ≡ false) → count m p ≡ count n p
unfolding count
count_past n m p l h =
    le_ind (λ k. ((i : ℕ) → n ≤ i → i < k → p i ≡ false) → count k p ≡ count n p) (λ h. refl)
    (λ k l ih h. rw (h k l (lt-suc_self k), add-zero) (ih (λ i a b. h i a (le_step b)))) m l h

-- a loop's next step
count_next : (n : ℕ) (p : ℕ → Bool) → count (n + 1) p ≡ count n p + cond (p n) 1 0
unfolding count
count_next n p = ap (λ (k : ℕ). count k p) (add-one n)

pub count_step : (n : ℕ) {x y : ℕ} (p : ℕ → Bool) → x ≡ count n p → y ≡ cond (p n) 1 0 → x + y ≡ count (n + 1) p
count_step n p e f = ap₂ ◌+◌ e f ∙ sym (count_next n p)

-- and no more are counted than there are
pub count_room : (n : ℕ) {x y : ℕ} (p : ℕ → Bool) → x ≡ count n p → y ≡ cond (p n) 1 0 → x + y ≤ n + 1
count_room n p e f = le_trans (le_of_eq (count_step n p e f)) (count_le (n + 1) p)
