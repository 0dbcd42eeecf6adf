-- Greedy starts exist. Assumes nothing.
use mathlib.Core.Path.{◌≡◌, ap, ap₂}
use mathlib.Core.Bool.{Bool, true, cond, ◌&&◌}
use Prim.Native.Nat.{ℕ, zero, suc, ◌+◌, ◌≤◌, ◌<◌}
use native.Mathlib.Nat.{le_refl, lt_trans, not-suc-le-zero}
use native.Mathlib.Omega.{arith}
use borrow.Author.Tests.{leb-true, le-leb, lt-ltb, le-ltb}
use lib.Dec.{leb, ltb}
use Rattle.task_set.specs.Bounded.{first}
use Rattle.task_set.proofs.Truth.{and_left, and_right, and_both}
use Rattle.task_set.proofs.Bounded.{below_suc}
use Rattle.task_set.proofs.Search.{First, first_is, first_cong, first_passes}
use Rattle.dispatch_theory.specs.Sums.{sum}
use Rattle.dispatch_theory.proofs.Sums.{sum_part}
use Rattle.dispatch_theory.proofs.Gate.{Gate, Lawful, local}
use Rattle.dispatch_theory.proofs.Greedy.{ends, after, Greedy, after_le, after_cong}

-- position k can start at s behind the starts S of the positions below it
abbrev can : Gate → (ℕ → ℕ) → (ℕ → ℕ) → ℕ → ℕ → Bool
can may d S k s = leb (after S k) s && may (ends S d) k s

-- at this instant it can: every earlier position is over by then
abbrev limit : (ℕ → ℕ) → ℕ → (ℕ → ℕ) → ℕ → ℕ
limit hold base d k = base + sum k (λ j. d j + hold j)

module _ (may : Gate) (hold : ℕ → ℕ) (base : ℕ) (d : ℕ → ℕ) where
  -- the first instant at which position k can start
  abbrev next : (ℕ → ℕ) → ℕ → ℕ
  next S k = first (limit hold base d k) (can may d S k)

  -- the starts of the positions below k
  upto : ℕ → ℕ → ℕ
  upto zero j = 0
  upto (suc k) j = cond (ltb j k) (upto k j) (next (upto k) k)

  pub starts : ℕ → ℕ
  starts k = next (upto k) k

  upto_starts : (k j : ℕ) → j < k → upto k j ≡ starts j
  unfolding upto starts
  upto_starts zero j l = absurd (not-suc-le-zero l)
  upto_starts (suc k) j l =
      below_suc (λ j. upto (suc k) j ≡ starts j) k (λ j h. rw (lt-ltb j k h) (upto_starts k j h))
      (rw (le-ltb k k (le_refl k))) j l

module _ {may : Gate} {n : ℕ} {hold : ℕ → ℕ} {base : ℕ} (L : Lawful may n hold base) (d : ℕ → ℕ) where
  abbrev S : ℕ → ℕ
  S = starts may hold base d

  -- `next` looks at the positions below k alone
  start_next : (k : ℕ) → k < n → S k ≡ next may hold base d S k
  unfolding starts
  start_next k m =
      first_cong (limit hold base d k) (can may d R k) (can may d S k)
      (λ s l. ap₂ (λ (a : ℕ) (b : Bool). leb a s && b) (after_cong R S k before)
      (local L (ends R d) (ends S d) k s m (λ j i. ap (λ (x : ℕ). x + d j) (before j i))))
    where
      R : ℕ → ℕ
      R = upto may hold base d k

      before : (j : ℕ) → j < k → R j ≡ S j
      before = upto_starts may hold base d k

  pub exists : Greedy may n d (starts may hold base d)
  exists =
      record {
        order = λ k l. leb-true (after S k) (S k) (and_left (leb (after S k) (S k)) (may (ends S d) k (S k)) (passes k l));
        open_at = λ k l. and_right (leb (after S k) (S k)) (may (ends S d) k (S k)) (passes k l);
        closed = λ k s l a h. rw (le-leb (after S k) s a) at ((search k l).searched.before s h);
      }
    where
      search : (k : ℕ) → k < n → First (limit hold base d k) (can may d S k) (S k)
      search k l = rw (start_next k l) (first_is (limit hold base d k) (can may d S k))

      held : (k : ℕ) → k < n → (j : ℕ) → j < k → ends S d j + hold j ≤ limit hold base d k
      held k l j h = omega (arith, (search j (lt_trans h l)).searched.within, sum_part k (λ j. d j + hold j) j h)

      passes : (k : ℕ) → k < n → can may d S k (S k) ≡ true
      passes k l =
          let x = limit hold base d k in
          first_passes (search k l)
          (and_both (le-leb (after S k) x (after_le S k x (λ j h. omega (arith, held k l j h))))
          (L.opens (ends S d) k x l (held k l) (omega arith)))
