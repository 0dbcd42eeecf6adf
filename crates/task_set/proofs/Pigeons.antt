-- No more numbers pass than there are values, if no two that pass have one value. Assumes nothing.
use mathlib.Core.Path.{◌≡◌, refl, sym, ◌∙◌}
use mathlib.Core.Bool.{Bool, true, false, cond, ◌&&◌, ◌||◌, or-false}
use Prim.Native.Nat.{ℕ, zero, suc, ◌+◌, ◌≤◌, ◌<◌}
use native.Mathlib.Nat.{le_refl, le_trans, le_of_eq, le_of_suc-le}
use native.Mathlib.Omega.{arith}
use borrow.Author.Tests.{eqb-true}
use lib.Dec.{eqb}
use Rattle.task_set.specs.Bounded.{any, count}
use Rattle.task_set.proofs.Truth.{off, by_test, and_left, and_right}
use Rattle.task_set.proofs.Bounded.{any_none, count_none, count_cong, count_more, count_le}

module _ (n m : ℕ) (q : ℕ → Bool) (f : ℕ → ℕ) (low : (i : ℕ) → i < n → q i ≡ true → f i < m)
    (apart : (i j : ℕ) → i < j → j < n → q i ≡ true → q j ≡ true → f i ≡ f j → ⊥) where
  -- some of the first i numbers that pass has the value u
  hit : ℕ → ℕ → Bool
  hit i u = any i (λ j. q j && eqb (f j) u)

  counted : (i : ℕ) → i ≤ n → count m (hit i) ≡ count i q
  unfolding any count hit
  counted zero l = count_none m (hit zero) (λ u k. refl)
  counted (suc i) l = let h = counted i (le_of_suc-le l) in by_test (q i) (in_set h) (out h)
    where
      new : q i ≡ true → hit i (f i) ≡ false
      new e = any_none i _ (λ j k. off _ (λ g. apart j i k l (and_left (q j) _ g) e (eqb-true _ _ (and_right (q j) _ g))))

      in_set : count m (hit i) ≡ count i q → q i ≡ true → count m (hit (suc i)) ≡ count i q + cond (q i) 1 0
      in_set h e =
          count_cong m (hit (suc i)) (λ u. hit i u || eqb (f i) u) (λ u k. rw e)
          ∙ count_more m (hit i) (f i) (low i l e) (new e) ∙ rw e (omega arith)

      out : count m (hit i) ≡ count i q → q i ≡ false → count m (hit (suc i)) ≡ count i q + cond (q i) 1 0
      out h e = count_cong m (hit (suc i)) (hit i) (λ u k. rw e (or-false (hit i u))) ∙ rw e (omega arith)

  pub pigeons : count n q ≤ m
  pigeons = le_trans (le_of_eq (sym (counted n (le_refl n)))) (count_le m (hit n))
