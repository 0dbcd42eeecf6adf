-- Greedy starts: each position starts at the first instant, not before the start of the position before it, at which its
-- gate is open. What follows for two runs, and how late a run may be. Assumes nothing.
use mathlib.Core.Path.{◌≡◌, refl}
use mathlib.Core.Bool.{Bool, true, false}
use Prim.Native.Nat.{ℕ, zero, suc, ◌+◌, ◌-◌, ◌≤◌, ◌<◌, zero-le}
use native.Mathlib.Nat.{le_refl, le_trans, le_of_suc-le, lt-suc_self, le_of_lt, add-le-add, lt_trans, lt_of_le_of_lt}
use native.Mathlib.Decide.{le_ind}
use native.Mathlib.Omega.{arith}
use borrow.Author.Tests.{ltb-true, ltb-false, lt-ltb}
use lib.Dec.{ltb}
use Rattle.task_set.specs.Bounded.{first}
use Rattle.task_set.proofs.Truth.{clash, by_test}
use Rattle.task_set.proofs.Search.{First, first_is, first_passes}
use Rattle.dispatch_theory.specs.Sums.{sum, greatest}
use Rattle.dispatch_theory.proofs.Sums.{strong, sum_mono, sum_part, sum_zero, greatest_lub, greatest_le}
use Rattle.dispatch_theory.proofs.Gate.{Gate, Lawful, sooner}

-- the finish instants of starts S and durations d
abbrev pub ends : (ℕ → ℕ) → (ℕ → ℕ) → ℕ → ℕ
ends S d j = S j + d j

-- the start of the position before k, and 0 for the first
unfoldable pub after : (ℕ → ℕ) → ℕ → ℕ
after S zero = 0
after S (suc k) = S k

-- S are the greedy starts of the first n positions with durations d
pub record Greedy (may : Gate) (n : ℕ) (d S : ℕ → ℕ) : Type 0 where
  pub order : (k : ℕ) → k < n → after S k ≤ S k
  pub open_at : (k : ℕ) → k < n → may (ends S d) k (S k) ≡ true
  pub closed : (k s : ℕ) → k < n → after S k ≤ s → s < S k → may (ends S d) k s ≡ false

pub after_le : (S : ℕ → ℕ) (k s : ℕ) → ((j : ℕ) → j < k → S j ≤ s) → after S k ≤ s
unfolding after
after_le S zero s h = zero-le
after_le S (suc k) s h = h k (lt-suc_self k)

pub after_cong : (S R : ℕ → ℕ) (k : ℕ) → ((j : ℕ) → j < k → S j ≡ R j) → after S k ≡ after R k
unfolding after
after_cong S R zero h = refl
after_cong S R (suc k) h = h k (lt-suc_self k)

module _ {may : Gate} {n : ℕ} {d S : ℕ → ℕ} (g : Greedy may n d S) where
  -- starts never go back
  pub ordered : (k j : ℕ) → j ≤ k → k < n → S j ≤ S k
  unfolding after
  ordered k j =
      le_ind (λ k. k < n → S j ≤ S k) (λ l. le_refl (S j)) (λ i h ih l. le_trans (ih (le_of_suc-le l)) (g.order (suc i) l)) k

  -- once every earlier position has started, a position waits for its gate alone
  start_by : (k s : ℕ) → k < n → ((j : ℕ) → j < k → S j ≤ s) → may (ends S d) k s ≡ true → S k ≤ s
  start_by k s l h e =
      by_test (ltb s (S k)) (λ t. absurd (clash e (g.closed k s l (after_le S k s h) (ltb-true s (S k) t)))) (ltb-false s (S k))

  -- rising instants x are kept, where each gate is open at its instant once the earlier positions keep theirs
  within : (x : ℕ → ℕ) → ((k j : ℕ) → j < k → k < n → x j ≤ x k)
      → ((k : ℕ) → k < n → ((j : ℕ) → j < k → S j ≤ x j) → may (ends S d) k (x k) ≡ true) → (k : ℕ) → k < n → S k ≤ x k
  within x up opens =
      strong (λ k. k < n → S k ≤ x k)
      (λ k ih l.
      let kept : (j : ℕ) → j < k → S j ≤ x j = λ j h. ih j h (lt_trans h l) in
      start_by k (x k) l (λ j h. le_trans (kept j h) (up k j h l)) (opens k l kept))

module _ {may : Gate} {n : ℕ} {hold : ℕ → ℕ} {base : ℕ} (L : Lawful may n hold base) {d S : ℕ → ℕ} (g : Greedy may n d S) where
  -- ---- one run

  -- what each position adds at worst
  abbrev held : ℕ → ℕ
  held j = d j + hold j

  -- at worst one position runs after the other
  pub bound : (k : ℕ) → k < n → S k ≤ base + sum k held
  bound =
      within g (λ k. base + sum k held)
      (λ k j h l. omega (arith, sum_mono k held j (le_of_lt h)))
      (λ k l ih. L.opens (ends S d) k (base + sum k held) l (λ j h. omega (arith, ih j h, sum_part k held j h)) (omega arith))

  pub response_bound : greatest n (ends S d) ≤ base + sum n held
  response_bound = greatest_lub n (ends S d) (base + sum n held) (λ j l. omega (arith, bound j l, sum_part n held j l))

  -- from base on, until position m is finished, some position runs or is held: the first that is not over
  pub busy : (i m : ℕ) → base ≤ i → m < n → i < ends S d m → (j : ℕ) × (j < n) × (S j ≤ i) × (i < S j + held j)
  busy i m b l h = (
    r,
    low,
    start_by g r i low (λ j t. omega (arith, past j t)) (L.opens (ends S d) r i low (λ j t. omega (arith, past j t)) b),
    omega (arith, ltb-true, first_passes f (omega (arith, lt-ltb))),
  )
    where
      late : ℕ → Bool
      late = λ j. ltb i (S j + held j)

      r : ℕ
      r = first m late

      f : First m late r
      f = first_is m late

      low : r < n
      low = lt_of_le_of_lt f.searched.within l

      past : (j : ℕ) → j < r → S j + held j ≤ i
      past j t = omega (arith, ltb-false, f.searched.before j t)

  -- ---- beside any other starts

  -- greedy starts are the least: none is later than in starts x that never fall along the order, where each gate is open at its
  -- start by x's own finishes
  pub earliest : (x : ℕ → ℕ) → ((k j : ℕ) → j < k → k < n → x j ≤ x k) → ((k : ℕ) → k < n → may (ends x d) k (x k) ≡ true)
      → (k : ℕ) → k < n → S k ≤ x k
  earliest x up opens =
      within g x up
      (λ k l ih. sooner L (ends S d) (ends x d) k (x k) l (λ j h. add-le-add (ih j h) (le_refl (d j))) (opens k l))

  -- ---- beside another run, with durations d'

  module _ {d' S' : ℕ → ℕ} (g' : Greedy may n d' S') where
    -- how much longer a position runs
    abbrev over : ℕ → ℕ
    over j = d j - d' j

    -- starts are behind those of the other run by no more than the overruns of the earlier positions
    pub overrun : (k : ℕ) → k < n → S k ≤ S' k + sum k over
    overrun =
        within g (λ k. S' k + sum k over)
        (λ k j h l. add-le-add (ordered g' k j (le_of_lt h) l) (sum_mono k over j (le_of_lt h)))
        (λ k l ih. L.shift (ends S d) (ends S' d') k (S' k) (sum k over) l (λ j h. omega (arith, ih j h, sum_part k over j h))
        (g'.open_at k l))

    -- and the last finish by no more than all overruns
    pub response_overrun : greatest n (ends S d) ≤ greatest n (ends S' d') + sum n over
    response_overrun =
        greatest_lub n (ends S d) (greatest n (ends S' d') + sum n over)
        (λ j l. omega (arith, overrun j l, greatest_le n (ends S' d') j l, sum_part n over j l))

    -- no longer durations: no start is later
    pub compare_start : ((j : ℕ) → j < n → d j ≤ d' j) → (k : ℕ) → k < n → S k ≤ S' k
    compare_start h k l = omega (arith, overrun k l, sum_zero k over (λ j i. omega (arith, h j (lt_trans i l))))
