-- The laws of decimal numbers: their digits, one by one, and how many there are. Assumes nothing.
use mathlib.Core.Path.{◌≡◌, refl, sym, ap, ◌∙◌}
use mathlib.Core.List.{List, [], ◌∷◌, ◌++◌}
use Prim.Native.Nat.{ℕ, zero, suc, ◌+◌, ◌*◌, ◌/◌, ◌%◌, ◌^◌, ◌≤◌, ◌<◌, zero-le}
use native.Mathlib.Nat.{mod-eq_of_lt}
use native.Mathlib.Omega.{arith}
use borrow.Author.Tests.{lt-ltb, le-ltb, ltb-true, ltb-false}
use lib.Dec.{ltb}
use lib.ListN.{length, length-append}
use Rattle.task_set.proofs.Truth.{by_test}
use Rattle.table_lines.specs.Decimal.{decimal_upto, decimal}

upto_one : (n x : ℕ) → x < 10 → decimal_upto (suc n) x ≡ (48 + x) ∷ []
unfolding decimal_upto
upto_one n x l = rw (lt-ltb x 10 l)

upto_more : (n x : ℕ) → 10 ≤ x → decimal_upto (suc n) x ≡ decimal_upto n (x / 10) ++ (48 + x % 10) ∷ []
unfolding decimal_upto
upto_more n x l = rw (le-ltb x 10 l)

-- with n more to come, the last one comes after those of a tenth
pub upto_last : (n x : ℕ) → length (decimal_upto (suc n) x) ≡ suc n
    → decimal_upto (suc n) x ≡ decimal_upto n (x / 10) ++ (48 + x % 10) ∷ []
unfolding decimal_upto
upto_last zero x e =
    by_test (ltb x 10) (λ t. let l = ltb-true x 10 t in upto_one 0 x l ∙ ap (λ (k : ℕ). (48 + k) ∷ []) (sym (mod-eq_of_lt l)))
    (λ t. upto_more 0 x (ltb-false x 10 t))
upto_last (suc n) x e =
    by_test (ltb x 10) (λ t. absurd (omega (arith, ap length (upto_one (suc n) x (ltb-true x 10 t)))))
    (λ t. upto_more (suc n) x (ltb-false x 10 t))

-- as many as there are, are enough
pub upto_self : (n x : ℕ) → decimal_upto (length (decimal_upto n x)) x ≡ decimal_upto n x
unfolding decimal_upto
upto_self zero x = refl
upto_self (suc n) x =
    by_test (ltb x 10) (λ e. let l = ltb-true x 10 e in
    ap (λ (d : List ℕ). decimal_upto (length d) x) (upto_one n x l) ∙ upto_one 0 x l ∙ sym (upto_one n x l))
    (λ e. let m : 10 ≤ x = ltb-false x 10 e in
    let f = upto_more n x m in
    let k : length (decimal_upto (suc n) x) ≡ suc (length (decimal_upto n (x / 10))) =
    omega (arith, ap length f, length-append (decimal_upto n (x / 10)) ((48 + x % 10) ∷ [])) in
    ap (λ (k : ℕ). decimal_upto k x) k ∙ upto_more _ x m ∙ ap (λ d. d ++ (48 + x % 10) ∷ []) (upto_self n (x / 10)) ∙ sym f)

-- ---- a number's digits: its only one; or those of a tenth of it, and the last

pub decimal_one : (x : ℕ) → x < 10 → decimal x ≡ (48 + x) ∷ []
unfolding decimal
decimal_one = upto_one 19

-- ---- how many there are

upto_length : (n x : ℕ) → length (decimal_upto n x) ≤ n
unfolding decimal_upto
upto_length zero x = zero-le
upto_length (suc n) x =
    by_test (ltb x 10) (λ e. rw e (omega arith)) (λ e. rw (e, length-append) (omega (arith, upto_length n (x / 10))))

pub decimal_longest : (x : ℕ) → length (decimal x) ≤ 20
unfolding decimal
decimal_longest = upto_length 20

pub length_one : (x : ℕ) → x < 10 → length (decimal x) ≡ 1
length_one x l = ap length (decimal_one x l)

-- as many as the greatest power of ten that is no greater tells
upto_power : (n k x : ℕ) → k < n → 10 ^ k ≤ x → x < 10 * 10 ^ k → length (decimal_upto n x) ≡ k + 1
upto_power zero k x l a b = absurd (omega arith)
upto_power (suc n) zero x l a b = ap length (upto_one n x (omega arith))
upto_power (suc n) (suc k) x l a b =
    let m : 10 ≤ x = omega arith in
    ap length (upto_more n x m) ∙ length-append (decimal_upto n (x / 10)) ((48 + x % 10) ∷ [])
    ∙ ap (λ (i : ℕ). i + 1) (upto_power n k (x / 10) (omega arith) (omega arith) (omega arith)) ∙ omega arith

pub length_power : (k x : ℕ) → k < 20 → 10 ^ k ≤ x → x < 10 * 10 ^ k → length (decimal x) ≡ k + 1
unfolding decimal
length_power = upto_power 20

upto_some : (n x : ℕ) → 1 ≤ length (decimal_upto (suc n) x)
unfolding decimal_upto
upto_some n x = by_test (ltb x 10) (λ e. rw e (omega arith)) (λ e. rw (e, length-append) (omega arith))

-- a greater number has no fewer
upto_mono : (n x y : ℕ) → x ≤ y → length (decimal_upto n x) ≤ length (decimal_upto n y)
unfolding decimal_upto
upto_mono zero x y l = zero-le
upto_mono (suc n) x y l =
    by_test (ltb x 10) (λ e. rw e (upto_some n y))
    (λ e. simp (upto_more n x (ltb-false x 10 e), upto_more n y (omega (arith, ltb-false x 10 e)), length-append)
    (omega (arith, upto_mono n (x / 10) (y / 10) (omega arith))))

pub decimal_mono : (x y : ℕ) → x ≤ y → length (decimal x) ≤ length (decimal y)
unfolding decimal
decimal_mono = upto_mono 20
