-- Texts one after the other: their lengths, and how one is put after the others. Assumes nothing.
use mathlib.Core.Path.{◌≡◌, refl, ap, ap₂, ◌∙◌, subst}
use mathlib.Core.List.{List, ◌++◌}
use Prim.Native.Nat.{ℕ, zero, suc, ◌+◌, ◌≤◌, ◌<◌}
use native.Mathlib.Nat.{le_antisymm}
use native.Mathlib.Numerals.{add-one}
use native.Mathlib.Omega.{arith}
use lib.ListN.{length, length-append}
use Rattle.dispatch_theory.specs.Sums.{sum}
use Rattle.dispatch_theory.proofs.Sums.{sum_part}
use Rattle.table_lines.specs.Texts.{joined}
use Rattle.table_lines.specs.Steps.{Room, Put}
use Rattle.table_lines.proofs.Stores.{put_then, put_length}

module _ (text : ℕ → List ℕ) where
  pub length_joined : (n : ℕ) → length (joined text n) ≡ sum n (λ i. length (text i))
  unfolding joined sum
  length_joined zero = refl
  length_joined (suc n) = length-append (joined text n) (text n) ∙ ap (λ (k : ℕ). k + length (text n)) (length_joined n)

  -- ---- one more

  joined_next : (n : ℕ) → joined text (n + 1) ≡ joined text n ++ text n
  unfolding joined
  joined_next n = ap (joined text) (add-one n)

  pub length_next : (n : ℕ) {k m : ℕ} → k ≡ length (joined text n) → m ≡ length (text n) → k + m ≡ length (joined text (n + 1))
  length_next n e g = rw (joined_next n, length-append) (ap₂ ◌+◌ e g)

  pub room_next : (n i : ℕ) {b b₁ : List ℕ} {m : ℕ} → Room b 0 (joined text n) → i < n → Put b 0 (joined text i) b₁ m
      → Room b₁ m (text i)
  room_next n i h l p =
      record { fits = omega (arith, put_length p, length_joined i, length_joined n, sum_part n (λ i. length (text i)) i l) }

  pub put_next : (i : ℕ) {b b₁ b₂ : List ℕ} {m k : ℕ}
      → Put b 0 (joined text i) b₁ m → Put b₁ m (text i) b₂ k → Put b 0 (joined text (i + 1)) b₂ k
  put_next i p q = rw (joined_next i) (put_then p q)

  pub put_all : {b b₁ : List ℕ} {m n i : ℕ} → i ≤ n → n ≤ i → Put b 0 (joined text i) b₁ m → Put b 0 (joined text n) b₁ m
  put_all {b} {b₁} {m} l h p = subst (λ (k : ℕ). Put b 0 (joined text k) b₁ m) (le_antisymm l h) p
