-- The walk on sets and arrays, one position at a time, as its loop goes. Assumes nothing.
use mathlib.Core.Path.{◌≡◌, refl, ◌∙◌}
use mathlib.Core.Bool.{Bool, true, false, ◌&&◌}
use mathlib.Core.List.{List}
use Prim.Native.Nat.{ℕ, suc, ◌+◌, ◌-◌, ◌≤◌, ◌<◌}
use native.Mathlib.Omega.{arith}
use lib.Bits.{bit_and}
use lib.Dec.{leb, ltb}
use lib.ListN.{get_or, set}
use Rattle.task_set.specs.Sets.{insert, subset, size}
use Rattle.plan.specs.Rules.{predecessors_of, release_of}
use Rattle.plan.specs.Refusals.{entry_at}
use Rattle.live_walk.specs.declared.Walked.{Walked}
use Rattle.live_walk.specs.Steps.{may_go, walk_from}

module _ (units predecessors releases order chosen users : List ℕ) (instant finished : ℕ) where
  module _ (len n : ℕ) (w : Walked) where
    -- the walk that is left
    abbrev left : ℕ → Walked → Walked
    left = walk_from units predecessors releases order chosen users instant finished

    pub walk_ends : len ≤ n → w ≡ left (len - n) w
    unfolding walk_from
    walk_ends l = let e : len - n ≡ 0 = omega arith in rw e refl

    -- at the next position n, from what the loop asks: the predecessors s, whether they are finished, the not-before instant r, and
    -- how many units are busy
    module _ (here : w.begun ≡ n) (low : n < len) {s r busy : ℕ} {ready : Bool} (e : s ≡ predecessors_of predecessors (entry_at order n))
        (f : ready ≡ subset s finished) (g : r ≡ release_of releases (entry_at order n))
        (h : busy ≡ size (bit_and (get_or users (entry_at chosen n) 0) w.running)) where
      one_more : len - n ≡ suc (len - (n + 1))
      one_more = omega arith

      -- the answer
      abbrev may : Bool
      may = ready && (leb r instant && ltb busy (get_or units (entry_at chosen n) 0))

      answer : may_go (predecessors_of predecessors (entry_at order n)) finished (release_of releases (entry_at order n)) instant
          (get_or users (entry_at chosen n) 0) w.running (get_or units (entry_at chosen n) 0) ≡ may
      answer = rw (f, e, g, h) refl

      pub walk_stops : may ≡ false → w ≡ left (len - n) w
      unfolding walk_from
      walk_stops q = rw (one_more, here, answer ∙ q) refl

      pub walk_goes : may ≡ true → {u : ℕ} → u ≡ insert w.running (entry_at order n)
          → left (len - (n + 1)) (record { begun = n + 1; running = u; starts = set w.starts (entry_at order n) instant })
          ≡ left (len - n) w
      unfolding walk_from
      walk_goes q k = rw (k, one_more, here, answer ∙ q) refl
