-- The loop that collects the successors of a task, with the bit of the task that it looks at. Assumes nothing.
use mathlib.Core.Path.{◌≡◌, refl, sym, ap, ap₂, ◌∙◌}
use mathlib.Core.Bool.{Bool, true, cond}
use Prim.Native.Nat.{ℕ, ◌+◌, ◌*◌, ◌%◌, ◌^◌, ◌≤◌, ◌<◌, zero-le}
use native.Mathlib.Nat.{lt_of_lt_of_le, one-mul, pow-suc}
use native.Mathlib.Numerals.{add-one}
use native.Mathlib.Omega.{arith}
use borrow.Author.Tests.{lt-ltb}
use lib.Bits.{bit_or}
use lib.Dec.{ltb}
use Rattle.task_set.specs.Sets.{width, insert, set_of}
use Rattle.task_set.proofs.Members.{shifted_one}

-- the numbers below u are looked at
pub record Collected (n : ℕ) (p : ℕ → Bool) (u s bit : ℕ) : Type 0 where
  pub within : u ≤ n
  pub is_set : s ≡ set_of u p
  pub is_bit : bit ≡ 2 ^ u % 2 ^ width

pub collected_none : {n : ℕ} {p : ℕ → Bool} → Collected n p 0 0 1
unfolding set_of
collected_none = record { within = zero-le; is_set = refl; is_bit = refl }

module _ {n : ℕ} {p : ℕ → Bool} {u s bit : ℕ} (h : Collected n p u s bit) (few : n ≤ width) where
  pub collected_more : {more : ℕ} {b : Bool} → u < n → b ≡ p u → more ≡ cond b (bit_or s bit) s
      → Collected n p (u + 1) more (bit * 2 ^ 1 % 2 ^ width)
  unfolding set_of insert
  collected_more {more} {b} l e f =
      record {
        within = omega arith;
        is_set = f ∙ rw (add-one u, ← e, low) (ap₂ (λ (x y : ℕ). cond b (bit_or x y) x) h.is_set bit_is);
        is_bit = rw (add-one u, pow-suc 2 u, bit_is) refl;
      }
    where
      low : ltb u width ≡ true
      low = lt-ltb u width (lt_of_lt_of_le l few)

      bit_is : bit ≡ 2 ^ u
      bit_is = h.is_bit ∙ ap (λ (x : ℕ). x % 2 ^ width) (sym (one-mul (2 ^ u))) ∙ shifted_one u (lt_of_lt_of_le l few)

  pub collected_all : n ≤ u → s ≡ set_of n p
  collected_all l = let e : u ≡ n = omega (arith, h.within) in h.is_set ∙ ap (λ (k : ℕ). set_of k p) e
