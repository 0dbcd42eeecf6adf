-- The difference of two numbers as an integer. Assumes nothing.
use mathlib.Core.Path.{◌≡◌, ap}
use Prim.Native.Nat.{ℕ, zero, suc, ◌+◌, ◌-◌, ◌≤◌, ◌<◌}
use native.Mathlib.Omega.{arith}
use borrow.Author.Tests.{lt-ltb, le-ltb, ltb-true, ltb-false}
use lib.Dec.{ltb, le→leb}
use lib.IntN.{pos, negsuc, ◌-ℤ◌}
use lib.Signed.{◌≤ℤ◌, le_z_yes}
use Rattle.task_set.proofs.Truth.{by_test}

-- ---- by which of the two is greater

pub not_below : (a b : ℕ) → b ≤ a → pos a -ℤ pos b ≡ pos (a - b)
not_below a zero l = ap pos (omega arith)
not_below a (suc b) l = rw (le-ltb a (suc b) l)

pub below : (a b : ℕ) → a < b → pos a -ℤ pos b ≡ negsuc (b - suc a)
below a zero l = absurd (omega arith)
below a (suc b) l = rw (lt-ltb a (suc b) l)

-- a greater first or a lesser second number makes it no less
pub difference_mono : (a b c d : ℕ) → a + d ≤ c + b → (pos a -ℤ pos b) ≤ℤ (pos c -ℤ pos d)
difference_mono a b c d l =
    by_test (ltb a b) (λ e. first_below (ltb-true a b e)) (λ e. first_not (ltb-false a b e))
  where
    first_below : a < b → (pos a -ℤ pos b) ≤ℤ (pos c -ℤ pos d)
    first_below m =
        rw (below a b m) (by_test (ltb c d)
        (λ e. let k = ltb-true c d e in rw (below c d k) (le_z_yes (le→leb (d - suc c) (b - suc a) (omega arith))))
        (λ e. rw (not_below c d (ltb-false c d e)) (le_z_yes tt)))

    first_not : b ≤ a → (pos a -ℤ pos b) ≤ℤ (pos c -ℤ pos d)
    first_not m =
        let k : d ≤ c = omega arith in
        rw (not_below a b m, not_below c d k) (le_z_yes (le→leb (a - b) (c - d) (omega arith)))
