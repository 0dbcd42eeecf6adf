-- n numbers below n without a repeat are all of them. Assumes nothing.
use mathlib.Core.Path.{◌≡◌, refl, ap, ◌∙◌}
use mathlib.Core.Bool.{true, false}
use Prim.Native.Nat.{ℕ, zero, suc, ◌≤◌, ◌<◌}
use native.Mathlib.Nat.{le_refl, le_of_suc-le}
use lib.Dec.{eqb}
use Rattle.task_set.specs.Bounded.{any, count}
use Rattle.task_set.proofs.Bounded.{any_elim, count_none, count_more, count_full}

module _ (n : ℕ) (f : ℕ → ℕ) (low : (i : ℕ) → i < n → f i < n)
    (new : (i : ℕ) → i < n → any i (λ j. eqb (f j) (f i)) ≡ false) where
  -- there are as many numbers among the first i as there are places
  pub counted : (i : ℕ) → i ≤ n → count n (λ t. any i (λ j. eqb (f j) t)) ≡ i
  unfolding any
  counted zero l = count_none n (λ t. false) (λ t m. refl)
  counted (suc i) l = count_more n (λ t. any i (λ j. eqb (f j) t)) (f i) (low i l) (new i l) ∙ ap suc (counted i (le_of_suc-le l))

  -- each number below n stands somewhere
  pub cover : (t : ℕ) → t < n → (i : ℕ) × (i < n) × (eqb (f i) t ≡ true)
  cover t l = any_elim n (λ j. eqb (f j) t) (count_full n (λ t. any n (λ j. eqb (f j) t)) (counted n (le_refl n)) t l)
