-- The loop over the types that a task can use. Assumes nothing.
use mathlib.Core.Path.{◌≡◌, refl, ◌∙◌}
use mathlib.Core.Bool.{cond}
use mathlib.Core.List.{List}
use Prim.Native.Nat.{ℕ, ◌+◌, ◌*◌, ◌/◌, ◌^◌, ◌≤◌, ◌<◌, zero-le}
use native.Mathlib.Numerals.{add-one}
use native.Mathlib.Omega.{arith}
use lib.Dec.{ltb}
use Rattle.task_set.specs.Bounded.{count}
use Rattle.task_set.proofs.Bounded.{count_step, count_room}
use Rattle.plan.specs.Rules.{most_types, time_of, usable}
use Rattle.dispatch_theory.specs.Sums.{sum}
use Rattle.ranks.specs.Ranks.{parts, types_of, own_rank}

-- the types below k are looked at
pub record Summed (wcet : List ℕ) (t k types total : ℕ) : Type 0 where
  pub within : k ≤ most_types
  pub counted : types ≡ count k (usable wcet t)
  pub summed : total ≡ sum k (time_of wcet t)
  pub few : types ≤ k
  pub small : total ≤ k * 2 ^ 32

pub summed_none : {wcet : List ℕ} {t : ℕ} → Summed wcet t 0 0 0
unfolding sum count
summed_none = record { within = zero-le; counted = refl; summed = refl; few = zero-le; small = zero-le }

module _ {wcet : List ℕ} {t k types total : ℕ} (h : Summed wcet t k types total) where
  pub summed_more : (time more : ℕ) → k < most_types → time ≡ time_of wcet t k → time < 2 ^ 32
      → more ≡ types + cond (ltb 0 time) 1 0 → Summed wcet t (k + 1) more (total + time)
  unfolding usable sum
  summed_more time more l e f m =
      record {
        within = omega arith;
        counted = m ∙ count_step k (usable wcet t) h.counted (rw e refl);
        summed = rw (h.summed, e, add-one k);
        few = rw m (count_room k (usable wcet t) h.counted (rw e refl));
        small = omega (arith, h.small);
      }

  module _ (l : most_types ≤ k) where
    whole : k ≡ most_types
    whole = omega (arith, h.within)

    pub own_is : parts * total / types ≡ own_rank wcet t
    unfolding own_rank types_of
    own_is = rw (h.counted, h.summed, whole)

    pub some_counted : 0 < types_of wcet t → 0 < types
    unfolding types_of
    some_counted g = rw (h.counted, whole) g
