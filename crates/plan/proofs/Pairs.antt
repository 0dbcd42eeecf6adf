-- Where the times of a task on a type lie. Assumes nothing.
use mathlib.Core.Path.{◌≡◌, refl}
use mathlib.Core.Bool.{cond, ◌&&◌}
use mathlib.Core.List.{List}
use Prim.Native.Nat.{ℕ, ◌<◌}
use native.Mathlib.Nat.{le_refl}
use borrow.Author.Tests.{lt-ltb, ltb-false}
use lib.Dec.{ltb}
use lib.ListN.{get_or, length, get_or-eq_default}
use Rattle.task_set.proofs.Truth.{by_test}
use Rattle.plan.specs.Rules.{most_types, most_tasks, most_pairs, pair_index, pair_place, time_of}

-- where a pair lies
pub place_is : (t k : ℕ) → t < most_tasks → k < most_types → pair_place t k ≡ pair_index t k
unfolding pair_place
place_is t k l m = rw (lt-ltb t most_tasks l, lt-ltb k most_types m)

-- what an array of so many entries has at a position: 0 past the last
pub entry_or_none : (xs : List ℕ) (n t : ℕ) → length xs ≡ n → get_or xs t 0 ≡ cond (ltb t n) (get_or xs t 0) 0
entry_or_none xs n t e =
    by_test (ltb t n) (λ f. rw f refl) (λ f. rw (f, get_or-eq_default xs 0 {n = t} (rw e (ltb-false t n f))) refl)

-- a time by where its pair lies
pub time_by_place : (times : List ℕ) (t k : ℕ) → length times ≡ most_pairs → get_or times (pair_place t k) 0 ≡ time_of times t k
unfolding time_of pair_place
time_by_place times t k e =
    by_test (ltb t most_tasks && ltb k most_types) (λ f. rw f refl)
    (λ f. rw (f, get_or-eq_default times 0 {n = most_pairs} (rw e (le_refl most_pairs))) refl)
