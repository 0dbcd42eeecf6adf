-- The laws of membership, each once over the width. Assumes nothing.
use mathlib.Core.Path.{◌≡◌, refl, sym, ap, ap₂, ◌∙◌, subst}
use mathlib.Core.Bool.{Bool, true, false, cond, ◌&&◌, ◌||◌, not, and-true, and-false, or-true, or-false, not-not}
use mathlib.Core.Logic.{⊎_elim}
use Prim.Native.Nat.{ℕ, zero, suc, ◌+◌, ◌-◌, ◌*◌, ◌/◌, ◌%◌, ◌^◌, ◌≤◌, ◌<◌, zero-le, suc-le-suc, min, max}
use native.Mathlib.Nat.{le_of_suc-le, le_of_suc-le-suc, not-suc-le-zero, zero-lt-suc, le_refl, le_trans, le_of_eq, mod-lt, div-one, div-eq_of_lt, zero-div, div-add-mod', lt_of_lt_of_le, lt_of_le_of_lt, div-lt_iff_lt-mul, pow-suc, one-mul, mod-le}
use native.Mathlib.Numerals.{one-add, add-one}
use native.Mathlib.Omega.{arith}
use lib.Arith.{digits_div, digits_mod, lt-one}
use lib.Bits.{bit_and, bit_or, bit_xor, differ, and_step, or_step, xor_step, and_le_l, or_lt, xor_lt, shifted_even, shifted_half}
use lib.Count.{ones, ones_step, count_trailing_zeros, under}
use lib.Dec.{eqb, ltb, eqb-zero-suc, eqb-suc-suc, lit<}
use lib.Pow.{pow_pos, pow_mono, pow-lt, shl_exact, shr-shr, field, mod-mod-pow}
use borrow.Author.Tests.{eq-eqb, eqb-true, ne_eqb, eqb-false, le-ltb, lt-ltb, ltb-true, ltb-false, not-true}
use Rattle.task_set.specs.Bounded.{all, any, count, first, implies}
use Rattle.task_set.specs.Sets.{width, has, insert, without, remove, set_of, below, intersect, lowest, size}
use Rattle.task_set.proofs.Truth.{clash, by_test, same, and_left, and_right, and_both, or_right, or_cases}
use Rattle.task_set.proofs.Bounded.{all_intro, all_elim, any_intro, any_elim, any_cong, not_all, count_cong, count_front, count_more, count_mono}
use Rattle.task_set.proofs.Search.{First, first_is, first_cong}

two_pos : zero < 2
two_pos = zero-lt-suc 1

-- a digit is 0 or 1
digit : (P : ℕ → Type 0) → P 0 → P 1 → (x : ℕ) → x < 2 → P x
digit P a b zero l = a
digit P a b (suc zero) l = b
digit P a b (suc (suc x)) l = absurd (not-suc-le-zero (le_of_suc-le-suc (le_of_suc-le-suc l)))

half_lt : {n : ℕ} (k : ℕ) → n < 2 ^ suc k → n / 2 < 2 ^ k
half_lt {n} k h = (div-lt_iff_lt-mul two_pos).1 (subst (λ (x : ℕ). n < x) (pow-suc 2 k) h)

-- ---- the lowest digit, and the rest

has_zero : (s : ℕ) → has s 0 ≡ eqb (s % 2) 1
unfolding has
has_zero s = ap (λ (x : ℕ). eqb (x % 2) 1) (div-one s)

has_suc : (s t : ℕ) → has s (suc t) ≡ has (s / 2) t
unfolding has
has_suc s t = ap (λ (x : ℕ). eqb (x % 2) 1) (ap (λ (x : ℕ). s / 2 ^ x) (sym (one-add t)) ∙ sym (shr-shr s 1 t))

-- ---- the empty set, and numbers past the width

pub has_none : (t : ℕ) → has 0 t ≡ false
unfolding has
has_none t = ap (λ (x : ℕ). eqb (x % 2) 1) (zero-div (2 ^ t))

pub has_past : {s : ℕ} (k t : ℕ) → s < 2 ^ k → k ≤ t → has s t ≡ false
unfolding has
has_past k t h l = ap (λ (x : ℕ). eqb (x % 2) 1) (div-eq_of_lt (lt_of_lt_of_le h (pow_mono l)))

-- ---- an operation that goes digit by digit, with f on numbers for g on truth values

Agrees : (ℕ → ℕ → ℕ) → (Bool → Bool → Bool) → ℕ → ℕ → Type 0
Agrees f g x y = (f x y < 2) × (eqb (f x y) 1 ≡ g (eqb x 1) (eqb y 1))

module _ (op f : ℕ → ℕ → ℕ) (g : Bool → Bool → Bool)
    (step : (a b : ℕ) → op a b ≡ op (a / 2) (b / 2) * 2 + f (a % 2) (b % 2))
    (table : (x : ℕ) → x < 2 → (y : ℕ) → y < 2 → Agrees f g x y) where
  low : (a b : ℕ) → Agrees f g (a % 2) (b % 2)
  low a b = table (a % 2) (mod-lt a two_pos) (b % 2) (mod-lt b two_pos)

  has_op : (t a b : ℕ) → has (op a b) t ≡ g (has a t) (has b t)
  unfolding Agrees
  has_op zero a b =
      has_zero (op a b) ∙ ap (λ (x : ℕ). eqb (x % 2) 1) (step a b)
      ∙ ap (λ (x : ℕ). eqb x 1) (digits_mod (op (a / 2) (b / 2)) (low a b).0) ∙ (low a b).1
      ∙ ap₂ g (sym (has_zero a)) (sym (has_zero b))
  has_op (suc t) a b =
      has_suc (op a b) t ∙ ap (λ (x : ℕ). has (x / 2) t) (step a b)
      ∙ ap (λ (x : ℕ). has x t) (digits_div (op (a / 2) (b / 2)) (low a b).0)
      ∙ has_op t (a / 2) (b / 2) ∙ ap₂ g (sym (has_suc a t)) (sym (has_suc b t))

pub has_and : (t a b : ℕ) → has (bit_and a b) t ≡ has a t && has b t
unfolding Agrees
has_and =
    has_op bit_and min ◌&&◌ and_step
    (digit (λ (x : ℕ). (y : ℕ) → y < 2 → Agrees min ◌&&◌ x y)
    (digit (Agrees min ◌&&◌ 0) (two_pos, refl) (two_pos, refl))
    (digit (Agrees min ◌&&◌ 1) (two_pos, refl) (le_refl 2, refl)))

pub has_or : (t a b : ℕ) → has (bit_or a b) t ≡ has a t || has b t
unfolding Agrees
has_or =
    has_op bit_or max ◌||◌ or_step
    (digit (λ (x : ℕ). (y : ℕ) → y < 2 → Agrees max ◌||◌ x y)
    (digit (Agrees max ◌||◌ 0) (two_pos, refl) (le_refl 2, refl))
    (digit (Agrees max ◌||◌ 1) (le_refl 2, refl) (le_refl 2, refl)))

-- one digit of two, and not both
xor : Bool → Bool → Bool
xor a b = cond a (not b) b

has_xor : (t a b : ℕ) → has (bit_xor a b) t ≡ xor (has a t) (has b t)
unfolding Agrees xor
has_xor =
    has_op bit_xor differ xor xor_step
    (digit (λ (x : ℕ). (y : ℕ) → y < 2 → Agrees differ xor x y)
    (digit (Agrees differ xor 0) (two_pos, refl) (le_refl 2, refl))
    (digit (Agrees differ xor 1) (le_refl 2, refl) (two_pos, refl)))

-- the members of one set that are not members of another
pub has_without : (a b t : ℕ) → has (without a b) t ≡ has a t && not (has b t)
unfolding without xor
has_without a b t = has_xor t a (bit_and a b) ∙ rw (has_and t a b) (go (has a t) (has b t))
  where
    go : (x y : Bool) → cond x (not (x && y)) (x && y) ≡ x && not y
    go true y = refl
    go false y = refl

pub without_small : (k a b : ℕ) → a < 2 ^ k → without a b < 2 ^ k
unfolding without
without_small k a b l = xor_lt k a (bit_and a b) l (lt_of_le_of_lt (and_le_l a b) l)

-- ---- one member, and one member more or less

-- the word with one bit, as a shift makes it
pub shifted_one : (t : ℕ) → t < width → 1 * 2 ^ t % 2 ^ width ≡ 2 ^ t
shifted_one t l = shl_exact {a = 1} 1 t width (lit< tt) (omega arith) ∙ one-mul (2 ^ t)

pub has_one : (t i : ℕ) → has (2 ^ t) i ≡ eqb t i
has_one zero zero = has_zero 1
has_one zero (suc i) = has_suc 1 i ∙ has_none i ∙ sym (eqb-zero-suc i)
has_one (suc t) zero =
    has_zero (2 ^ suc t) ∙ ap (λ (x : ℕ). eqb x 1) (ap (λ (x : ℕ). x % 2) (sym (one-mul (2 ^ suc t))) ∙ shifted_even 1 t)
    ∙ sym (ne_eqb (suc t) 0 (λ e. omega arith))
has_one (suc t) (suc i) =
    has_suc (2 ^ suc t) i
    ∙ ap (λ (x : ℕ). has x i) (ap (λ (x : ℕ). x / 2) (sym (one-mul (2 ^ suc t))) ∙ shifted_half 1 t ∙ one-mul (2 ^ t))
    ∙ has_one t i ∙ sym (eqb-suc-suc t i)

pub has_insert : (s t i : ℕ) → t < width → has (insert s t) i ≡ has s i || eqb t i
unfolding insert
has_insert s t i l = rw (lt-ltb t width l) (has_or i s (2 ^ t) ∙ ap (λ (b : Bool). has s i || b) (has_one t i))

pub has_remove : (s t i : ℕ) → t < width → has (remove s t) i ≡ has s i && not (eqb t i)
unfolding remove
has_remove s t i l = rw (lt-ltb t width l) (has_without s (2 ^ t) i ∙ ap (λ (b : Bool). has s i && not b) (has_one t i))

-- ---- the set of the numbers that pass

-- one number looked at: a member if it passes
has_grown : (s n t : ℕ) (b : Bool) → n < width → has (cond b (insert s n) s) t ≡ has s t || (eqb n t && b)
has_grown s n t true l = rw (and-true (eqb n t)) (has_insert s n t l)
has_grown s n t false l = rw (and-false (eqb n t), or-false (has s t))

pub has_set_of : (n : ℕ) (p : ℕ → Bool) (t : ℕ) → n ≤ width → has (set_of n p) t ≡ ltb t n && p t
unfolding set_of
has_set_of zero p t l = rw (le-ltb t 0 zero-le) (has_none t)
has_set_of (suc n) p t l = rw (has_grown (set_of n p) n t (p n) l, has_set_of n p t (le_of_suc-le l)) (go (eqb n t) refl)
  where
    go : (b : Bool) → eqb n t ≡ b → (ltb t n && p t) || (b && p n) ≡ ltb t (suc n) && p t
    go true e = let q = eqb-true n t e in rw (le-ltb t n (omega arith), lt-ltb t (suc n) (omega arith)) (ap p q)
    go false e =
        rw (
          or-false (ltb t n && p t),
          same (ltb t n) (ltb t (suc n)) (λ f. lt-ltb t (suc n) (omega (arith, ltb-true t n f)))
              (λ f. lt-ltb t n (omega (arith, ltb-true t (suc n) f, eqb-false n t e))),
        )

-- a loop's next step
pub set_of_next : (n : ℕ) (p : ℕ → Bool) {r s : ℕ} → s ≡ set_of n p → r ≡ cond (p n) (insert s n) s → r ≡ set_of (n + 1) p
unfolding set_of
set_of_next n p e f =
    f ∙ ap (λ (s : ℕ). cond (p n) (insert s n) s) e ∙ ap (λ (k : ℕ). set_of k p) (sym (add-one n))

pub set_of_small : (n : ℕ) (p : ℕ → Bool) → n ≤ width → set_of n p < 2 ^ width
unfolding set_of insert
set_of_small zero p l = pow_pos width
set_of_small (suc n) p l =
    let h = set_of_small n p (le_of_suc-le l) in
    by_test (p n) (λ e. rw (e, lt-ltb n width l) (or_lt width (set_of n p) (2 ^ n) h (pow-lt l))) (λ e. rw e h)

-- of a number that can be a member, whatever t is
pub has_insert_low : (s t u : ℕ) → u < width → has (insert s t) u ≡ has s u || eqb t u
unfolding insert
has_insert_low s t u l =
    by_test (ltb t width) (λ e. has_insert s t u (ltb-true t width e))
    (λ e. rw (e, ne_eqb t u (λ q. omega (arith, ltb-false t width e))) (sym (or-false (has s u))))

pub insert_small : (s t : ℕ) → s < 2 ^ width → insert s t < 2 ^ width
unfolding insert
insert_small s t l = by_test (ltb t width) (λ e. rw e (or_lt width s (2 ^ t) l (pow-lt (ltb-true t width e)))) (λ e. rw e l)

-- ---- the members below a number

pub has_below : (s n t : ℕ) → has (below s n) t ≡ has s t && ltb t n
unfolding has below
has_below s n t = by_test (ltb t n) inside outside
  where
    digit_kept : (j : ℕ) → n ≡ suc j + t → s % 2 ^ n / 2 ^ t % 2 ≡ s / 2 ^ t % 2
    digit_kept j e = rw (e, field s (suc j) t, ← add-one j) (mod-mod-pow (s / 2 ^ t) j 1)

    inside : ltb t n ≡ true → eqb (s % 2 ^ n / 2 ^ t % 2) 1 ≡ eqb (s / 2 ^ t % 2) 1 && ltb t n
    inside e =
        ap (λ (x : ℕ). eqb x 1) (digit_kept (n - suc t) (omega (arith, ltb-true t n e)))
        ∙ sym (rw e (and-true (eqb (s / 2 ^ t % 2) 1)))

    outside : ltb t n ≡ false → eqb (s % 2 ^ n / 2 ^ t % 2) 1 ≡ eqb (s / 2 ^ t % 2) 1 && ltb t n
    outside e =
        ap (λ (x : ℕ). eqb (x % 2) 1) (div-eq_of_lt (lt_of_lt_of_le (mod-lt s (pow_pos n)) (pow_mono (ltb-false t n e))))
        ∙ sym (rw e (and-false (eqb (s / 2 ^ t % 2) 1)))

-- ---- equal members make equal sets

same_digit : (x : ℕ) → x < 2 → (y : ℕ) → y < 2 → eqb x 1 ≡ eqb y 1 → x ≡ y
same_digit =
    digit (λ (x : ℕ). (y : ℕ) → y < 2 → eqb x 1 ≡ eqb y 1 → x ≡ y)
    (digit (λ (y : ℕ). false ≡ eqb y 1 → 0 ≡ y) (λ e. refl) (λ e. absurd (clash refl (sym e))))
    (digit (λ (y : ℕ). true ≡ eqb y 1 → 1 ≡ y) (λ e. absurd (clash refl e)) (λ e. refl))

pub set_ext : (k a b : ℕ) → a < 2 ^ k → b < 2 ^ k → ((t : ℕ) → t < k → has a t ≡ has b t) → a ≡ b
set_ext zero a b ha hb h = lt-one ha ∙ sym (lt-one hb)
set_ext (suc k) a b ha hb h =
    sym (div-add-mod' a 2)
    ∙ ap₂ (λ (x y : ℕ). x * 2 + y)
    (set_ext k (a / 2) (b / 2) (half_lt k ha) (half_lt k hb) (λ t l. sym (has_suc a t) ∙ h (suc t) (suc-le-suc l) ∙ has_suc b t))
    (same_digit (a % 2) (mod-lt a two_pos) (b % 2) (mod-lt b two_pos) (sym (has_zero a) ∙ h 0 (zero-lt-suc k) ∙ has_zero b))
    ∙ div-add-mod' b 2

-- ---- a subset, by a mask

meet_implies : (x y : Bool) → x && y ≡ x → implies x y ≡ true
meet_implies true y e = e
meet_implies false y e = refl

implies_meet : (x y : Bool) → implies x y ≡ true → x && y ≡ x
implies_meet true y e = e
implies_meet false y e = refl

-- a mask keeps a whole exactly if each member passes
kept : (k a m : ℕ) (q : ℕ → Bool) → a < 2 ^ k → m < 2 ^ k → ((t : ℕ) → has m t ≡ has a t && q t)
    → eqb m a ≡ all k (λ t. implies (has a t) (q t))
kept k a m q ha hm h =
    same (eqb m a) (all k (λ t. implies (has a t) (q t)))
    (λ e. all_intro k (λ t. implies (has a t) (q t))
    (λ t l. meet_implies (has a t) (q t) (sym (h t) ∙ ap (λ (x : ℕ). has x t) (eqb-true m a e))))
    (λ e. eq-eqb m a
    (set_ext k m a hm ha (λ t l. h t ∙ implies_meet (has a t) (q t) (all_elim k (λ t. implies (has a t) (q t)) e t l))))

pub subset_mask : (k a b : ℕ) → a < 2 ^ k → eqb (bit_and a b) a ≡ all k (λ t. implies (has a t) (has b t))
subset_mask k a b l = kept k a (bit_and a b) (has b) l (lt_of_le_of_lt (and_le_l a b) l) (λ t. has_and t a b)

pub below_mask : (k s n : ℕ) → s < 2 ^ k → eqb (below s n) s ≡ all k (λ t. implies (has s t) (ltb t n))
unfolding below
below_mask k s n l = kept k s (below s n) (λ t. ltb t n) l (lt_of_le_of_lt (mod-le s (2 ^ n)) l) (has_below s n)

-- ---- sets with no common member, by a mask

pub apart_mask : (k a b : ℕ) → a < 2 ^ k → eqb (bit_and a b) 0 ≡ all k (λ t. not (has a t && has b t))
apart_mask k a b l =
    same (eqb (bit_and a b) 0) (all k (λ t. not (has a t && has b t)))
    (λ e. all_intro k (λ t. not (has a t && has b t))
    (λ t m. ap not (sym (has_and t a b) ∙ ap (λ (x : ℕ). has x t) (eqb-true _ _ e) ∙ has_none t)))
    (λ e. eq-eqb (bit_and a b) 0
    (set_ext k (bit_and a b) 0 (lt_of_le_of_lt (and_le_l a b) l) (pow_pos k)
    (λ t m. has_and t a b ∙ not-true _ (all_elim k (λ t. not (has a t && has b t)) e t m) ∙ sym (has_none t))))

pub meet_mask : (k a b : ℕ) → a < 2 ^ k → not (eqb (bit_and a b) 0) ≡ any k (λ t. has a t && has b t)
meet_mask k a b l =
    ap not (apart_mask k a b l) ∙ not_all k (λ t. not (has a t && has b t))
    ∙ any_cong k _ _ (λ t m. not-not (has a t && has b t))

-- the set with the one member t meets those sets that t is a member of
pub one_meets : (t s : ℕ) → s < 2 ^ width → intersect (insert 0 t) s ≡ has s t
unfolding intersect
one_meets t s h =
    same _ (has s t)
    (λ e.
    let r = any_elim width (λ u. has (insert 0 t) u && has s u) e in
    let f = has_insert_low 0 t r.0 r.1 in
    let g = and_left (has (insert 0 t) r.0) (has s r.0) r.2 in
    ap (has s) (eqb-true t r.0 (rw (has_none r.0) at (sym f ∙ g)))
    ∙ and_right (has (insert 0 t) r.0) (has s r.0) r.2)
    (λ e. by_test (ltb t width)
    (λ f. let l = ltb-true t width f in
    any_intro width (λ u. has (insert 0 t) u && has s u) t l
    (and_both (has_insert 0 t t l ∙ or_right (has 0 t) (eq-eqb t t refl)) e))
    (λ f. absurd (clash e (has_past width t h (ltb-false t width f)))))

-- ---- the lowest member is the first one

under_cond : (x n : ℕ) → x < 2 → under x n ≡ cond (eqb x 1) 0 (suc n)
under_cond x n = digit (λ (y : ℕ). under y n ≡ cond (eqb y 1) 0 (suc n)) refl refl x

pub trailing_first : (k s : ℕ) → count_trailing_zeros k s ≡ first k (has s)
unfolding count_trailing_zeros first
trailing_first zero s = refl
trailing_first (suc k) s =
    under_cond (s % 2) (count_trailing_zeros k (s / 2)) (mod-lt s two_pos)
    ∙ ap₂ (λ (b : Bool) (n : ℕ). cond b 0 (suc n)) (sym (has_zero s))
    (trailing_first k (s / 2) ∙ first_cong k (has (s / 2)) (λ i. has s (suc i)) (λ i l. sym (has_suc s i)))

pub lowest_first_lem : (s : ℕ) → First width (has s) (lowest s)
unfolding lowest
lowest_first_lem s = first_is width (has s)

-- a set that is not empty has a lowest member
pub lowest_low : (s : ℕ) → s < 2 ^ width → (s ≡ 0 → ⊥) → lowest s < width
lowest_low s h f =
    by_test (ltb (lowest s) width) (ltb-true _ _) (λ e. absurd (f (set_ext width s 0 h (pow_pos width) (none (ltb-false _ _ e)))))
  where
    none : width ≤ lowest s → (t : ℕ) → t < width → has s t ≡ has 0 t
    none l t m = (lowest_first_lem s).searched.before t (lt_of_lt_of_le m l) ∙ sym (has_none t)

-- s - 1 has every member of s but the lowest, l
has_pred : (l s t : ℕ) → has s l ≡ true → ((i : ℕ) → i < l → has s i ≡ false) → has s t ≡ true → has (s - 1) t ≡ not (eqb l t)
has_pred zero s zero e f g =
    let q : (s - 1) % 2 ≡ 0 = omega (arith, eqb-true (s % 2) 1 (sym (has_zero s) ∙ e)) in
    has_zero (s - 1) ∙ rw q
has_pred zero s (suc t) e f g =
    let q : (s - 1) / 2 ≡ s / 2 = omega (arith, eqb-true (s % 2) 1 (sym (has_zero s) ∙ e)) in
    has_suc (s - 1) t ∙ rw (q, ← has_suc s t, eqb-zero-suc t) g
has_pred (suc l) s zero e f g = absurd (clash g (f 0 (zero-lt-suc l)))
has_pred (suc l) s (suc t) e f g =
    let q : (s - 1) / 2 ≡ s / 2 - 1 = omega (arith, eqb-false (s % 2) 1 (sym (has_zero s) ∙ f 0 (zero-lt-suc l))) in
    has_suc (s - 1) t
    ∙ rw (q, eqb-suc-suc l t)
    (has_pred l (s / 2) t (sym (has_suc s l) ∙ e) (λ i m. sym (has_suc s i) ∙ f (suc i) (suc-le-suc m)) (sym (has_suc s t) ∙ g))

-- ---- the count of ones is the number of members, and of a masked set the number of members that pass

digit_cond : (x : ℕ) → x < 2 → x ≡ cond (eqb x 1) 1 0
digit_cond = digit (λ (y : ℕ). y ≡ cond (eqb y 1) 1 0) refl refl

pub ones_count : (k s : ℕ) → s < 2 ^ k → ones s ≡ count k (has s)
unfolding ones count
ones_count zero s h = ap ones (lt-one h)
ones_count (suc k) s h =
    ones_step s
    ∙ ap₂ (λ (x y : ℕ). x + y) (digit_cond (s % 2) (mod-lt s two_pos) ∙ ap (λ (b : Bool). cond b 1 0) (sym (has_zero s)))
    (ones_count k (s / 2) (half_lt k h) ∙ count_cong k (has (s / 2)) (λ i. has s (suc i)) (λ i l. sym (has_suc s i)))
    ∙ sym (count_front k (has s))

-- a set without one of its members has one member fewer
pub size_remove : (s t : ℕ) → t < width → has s t ≡ true → size s ≡ suc (size (remove s t))
unfolding size
size_remove s t l e =
    count_cong width (has s) (λ i. has (remove s t) i || eqb t i)
    (λ i m. sym (ap (λ (b : Bool). b || eqb t i) (has_remove s t i l) ∙ go i (eqb t i) refl))
    ∙ count_more width (has (remove s t)) t l (has_remove s t t l ∙ rw (eq-eqb t t refl) (and-false (has s t)))
  where
    go : (i : ℕ) (b : Bool) → eqb t i ≡ b → (has s i && not b) || b ≡ has s i
    go i true q = or-true (has s i && false) ∙ sym (ap (has s) (sym (eqb-true t i q)) ∙ e)
    go i false q = or-false (has s i && true) ∙ and-true (has s i)

-- a set that lacks a member of a larger one has fewer
pub size_grows : (a b : ℕ) → a < 2 ^ width → b < 2 ^ width → ((t : ℕ) → t < width → has a t ≡ true → has b t ≡ true)
    → (a ≡ b → ⊥) → size a < size b
unfolding size
size_grows a b ha hb h f =
    by_test (ltb (size a) (size b)) (ltb-true _ _)
    (λ e. absurd (f (set_ext width a b ha hb
    (λ t l. same (has a t) (has b t) (h t l)
    (λ g. by_test (has a t) (λ i. i) (λ n. absurd (omega (arith, ltb-false (size a) (size b) e, lacks t l g n))))))))
  where
    lacks : (t : ℕ) → t < width → has b t ≡ true → has a t ≡ false → size a < size b
    lacks t l g n =
        le_trans (le_of_eq (sym (count_more width (has a) t l n)))
        (count_mono width (λ i. has a i || eqb t i) (has b)
        (λ i m e. ⊎_elim (h i m) (λ q. ap (has b) (sym (eqb-true t i q)) ∙ g) (or_cases (has a i) (eqb t i) e)))

-- ---- a loop over the members: the lowest is looked at and removed

module _ (s : ℕ) (fits : s < 2 ^ width) (some : s ≡ 0 → ⊥) where
  pub lowest_member : has s (lowest s) ≡ true
  lowest_member = (lowest_first_lem s).passes (lowest_low s fits some)

  pub fewer_left : size (remove s (lowest s)) < size s
  fewer_left = omega (arith, size_remove s (lowest s) (lowest_low s fits some) lowest_member)

  -- the bits that s and s - 1 share are the members but the lowest
  pub pred_mask : bit_and s (s - 1) ≡ remove s (lowest s)
  unfolding remove
  pred_mask =
      let low = lowest_low s fits some in
      set_ext width _ _ (lt_of_le_of_lt (and_le_l s (s - 1)) fits)
      (rw (lt-ltb (lowest s) width low) (without_small width s _ fits))
      (λ t m. has_and t s (s - 1)
      ∙ by_test (has s t)
      (λ e. ap (λ (b : Bool). has s t && b) (has_pred (lowest s) s t lowest_member (lowest_first_lem s).searched.before e))
      (λ e. rw e)
      ∙ sym (has_remove s (lowest s) t low))
