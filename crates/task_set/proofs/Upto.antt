-- The loop that computes F 0, F 1, .. up to F n, with no early end. Assumes nothing.
use mathlib.Core.Path.{◌≡◌, ap, ◌∙◌}
use Prim.Native.Nat.{ℕ, ◌+◌, ◌≤◌, ◌<◌, zero-le}
use native.Mathlib.Omega.{arith}

-- the loop has come to i, and holds x
pub record Upto {A : Type 0} (F : ℕ → A) (n i : ℕ) (x : A) : Type 0 where
  pub within : i ≤ n
  pub is : x ≡ F i

pub upto_none : {A : Type 0} {F : ℕ → A} {n : ℕ} {x : A} → x ≡ F 0 → Upto F n 0 x
upto_none e = record { within = zero-le; is = e }

pub upto_more : {A : Type 0} {F : ℕ → A} {n i : ℕ} {x : A} → i < n → x ≡ F (i + 1) → Upto F n (i + 1) x
upto_more l e = record { within = omega arith; is = e }

pub upto_end : {A : Type 0} {F : ℕ → A} {n i : ℕ} {x : A} → Upto F n i x → n ≤ i → x ≡ F n
upto_end {F = F} {n} {i} h l = let e : i ≡ n = omega arith in h.is ∙ ap F e
