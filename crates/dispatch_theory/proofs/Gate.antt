-- What decides whether the next position may start. Assumes nothing.
use mathlib.Core.Path.{◌≡◌, sym}
use mathlib.Core.Bool.{Bool, true}
use Prim.Native.Nat.{ℕ, ◌+◌, ◌≤◌, ◌<◌}
use native.Mathlib.Nat.{add-zero, le_of_eq}
use Rattle.task_set.proofs.Truth.{same}

-- `may F k s`: position k may start at the instant s, where F gives the finish instants of the positions below k
abbrev pub Gate : Type 0
Gate = (ℕ → ℕ) → ℕ → ℕ → Bool

-- what the theory asks of a gate over n positions; `hold j` is how long position j keeps its unit past its finish,
-- and from the instant `base` on nothing but other positions makes a position wait
pub record Lawful (may : Gate) (n : ℕ) (hold : ℕ → ℕ) (base : ℕ) : Type 0 where
  -- finishes at most c later open the gate at most c later
  pub shift : (F G : ℕ → ℕ) (k s c : ℕ) → k < n → ((j : ℕ) → j < k → F j ≤ G j + c) → may G k s ≡ true → may F k (s + c) ≡ true
  -- with every earlier position finished, and held for its time, the gate is open from the instant base on
  pub opens : (F : ℕ → ℕ) (k s : ℕ) → k < n → ((j : ℕ) → j < k → F j + hold j ≤ s) → base ≤ s → may F k s ≡ true

module _ {may : Gate} {n : ℕ} {hold : ℕ → ℕ} {base : ℕ} (L : Lawful may n hold base) where
  -- earlier finishes never close a gate
  pub sooner : (F G : ℕ → ℕ) (k s : ℕ) → k < n → ((j : ℕ) → j < k → F j ≤ G j) → may G k s ≡ true → may F k s ≡ true
  sooner F G k s m h e = rw add-zero at (L.shift F G k s 0 m (λ j l. rw add-zero (h j l)) e)

  -- it looks at the positions below k alone
  pub local : (F G : ℕ → ℕ) (k s : ℕ) → k < n → ((j : ℕ) → j < k → F j ≡ G j) → may F k s ≡ may G k s
  local F G k s m h =
      same (may F k s) (may G k s) (sooner G F k s m (λ j l. le_of_eq (sym (h j l))))
      (sooner F G k s m (λ j l. le_of_eq (h j l)))
