-- What a rank is where no arrows lead back: the task's own, and the greatest of its successors. Assumes nothing.
use mathlib.Core.Path.{◌≡◌, refl, ap}
use mathlib.Core.Bool.{Bool, true, cond}
use mathlib.Core.List.{List}
use Prim.Native.Nat.{ℕ, zero, suc, ◌+◌, ◌*◌, ◌-◌, ◌≤◌, ◌<◌, zero-le}
use native.Mathlib.Nat.{le_trans, mul-le-mul_left, div-le_self, le-div_iff_mul-le}
use native.Mathlib.Omega.{arith}
use borrow.Author.Tests.{ltb-true}
use lib.Dec.{ltb}
use Rattle.task_set.specs.Bounded.{count}
use Rattle.task_set.proofs.Truth.{by_test}
use Rattle.plan.specs.Rules.{most_types, longest_time, time_of, usable}
use Rattle.dispatch_theory.specs.Sums.{sum, greatest}
use Rattle.dispatch_theory.proofs.Sums.{sum_le, greatest_lub, greatest_le, greatest_cong}
use Rattle.ranks_arrows.proofs.Orders.{Legal, place, place_low, place_later}
use Rattle.ranks.specs.Ranks.{parts, types_of, own_rank, rank_within, rank_by}

-- ---- a task's own rank

-- no fewer than there are numbers with a value
count_sum : (n : ℕ) (f : ℕ → ℕ) → count n (λ i. ltb 0 (f i)) ≤ sum n f
unfolding sum count
count_sum zero f = zero-le
count_sum (suc n) f =
    by_test (ltb 0 (f n)) (λ e. rw e (omega (arith, count_sum n f, ltb-true 0 (f n) e)))
    (λ e. rw e (omega (arith, count_sum n f)))

pub own_least : (wcet : List ℕ) (t : ℕ) → 0 < types_of wcet t → parts ≤ own_rank wcet t
unfolding own_rank types_of usable
own_least wcet t l = (le-div_iff_mul-le l).1 (mul-le-mul_left parts (count_sum most_types (time_of wcet t)))

-- no task's own rank is greater
abbrev pub most_own : ℕ
most_own = parts * (most_types * longest_time)

pub own_most : (wcet : List ℕ) (t : ℕ) → ((k : ℕ) → time_of wcet t k ≤ longest_time) → own_rank wcet t ≤ most_own
unfolding own_rank
own_most wcet t short =
    le_trans (div-le_self (parts * sum most_types (time_of wcet t)) (types_of wcet t))
    (mul-le-mul_left parts (sum_le most_types (time_of wcet t) longest_time (λ k l. short k)))

-- ---- the equation

module _ (own : ℕ → ℕ) (arrow : ℕ → ℕ → Bool) (tasks : ℕ) where
  -- what a successor has, and 0 for another task
  abbrev among : (ℕ → ℕ) → ℕ → ℕ → ℕ
  among value t u = cond (arrow t u) (value u) 0

  within_most : (most : ℕ) → ((t : ℕ) → t < tasks → own t ≤ most) → (n t : ℕ) → t < tasks
      → rank_within n own arrow tasks t ≤ n * most
  unfolding rank_within
  within_most most h zero t l = zero-le
  within_most most h (suc n) t l =
      omega (
        arith,
        h t l,
        greatest_lub tasks (among (rank_within n own arrow tasks) t) (n * most)
            (λ u m. by_test (arrow t u) (λ e. rw e (within_most most h n u m)) (λ e. rw e zero-le)),
      )

  pub rank_most : (most : ℕ) → ((t : ℕ) → t < tasks → own t ≤ most) → (t : ℕ) → t < tasks
      → rank_by own arrow tasks t ≤ tasks * most
  unfolding rank_by
  rank_most most h = within_most most h tasks

  module _ {order : ℕ → ℕ} (legal : Legal arrow tasks order) where
    -- how many positions there are from that of t on
    abbrev left : ℕ → ℕ
    left t = tasks - place tasks order t

    -- from as many tasks on as there are from its position, more make no difference
    steady : (n m t : ℕ) → t < tasks → left t ≤ n → left t ≤ m
        → rank_within n own arrow tasks t ≡ rank_within m own arrow tasks t
    unfolding rank_within
    steady zero m t l a b = absurd (omega (arith, place_low legal t l))
    steady (suc n) zero t l a b = absurd (omega (arith, place_low legal t l))
    steady (suc n) (suc m) t l a b =
        ap (λ (x : ℕ). own t + x)
        (greatest_cong tasks (among (rank_within n own arrow tasks) t) (among (rank_within m own arrow tasks) t)
        (λ u k. by_test (arrow t u)
        (λ e. let f = place_later legal t u l k e in
        let g = place_low legal u k in
        rw e (steady n m u k (omega arith) (omega arith)))
        (λ e. rw e refl)))

    -- "plus the greatest rank among its successors, 0 if it has none"
    pub rank_is : (t : ℕ) → t < tasks
        → rank_by own arrow tasks t ≡ own t + greatest tasks (λ u. cond (arrow t u) (rank_by own arrow tasks u) 0)
    unfolding rank_by rank_within
    rank_is t l = steady tasks (suc tasks) t l (omega arith) (omega arith)

    -- where an arrow leads from t to u, the rank of t is greater, by its own at least
    pub rank_falls : (t u : ℕ) → t < tasks → u < tasks → arrow t u ≡ true
        → own t + rank_by own arrow tasks u ≤ rank_by own arrow tasks t
    rank_falls t u l m e =
        omega (
          arith,
          rank_is t l,
          rw e at (greatest_le tasks (λ v. cond (arrow t v) (rank_by own arrow tasks v) 0) u m),
        )
