-- The rules of the tasks, as they are tested: the pairs in one row, then the types and predecessors of each task.
-- Assumes nothing.
use mathlib.Core.Path.{◌≡◌, sym, ◌∙◌}
use mathlib.Core.Bool.{Bool, true, false, cond, ◌&&◌, ◌||◌, not, and-true, and-false, and_comm, and_assoc, or-true, or-false, not-not}
use mathlib.Core.List.{List}
use Prim.Native.Nat.compare
use Prim.Native.Nat.{ℕ, zero, suc, ◌<◌}
use native.Mathlib.Nat.{zero-lt-suc}
use borrow.Author.Tests.{lt-ltb}
use lib.Dec.{ltb, leb-suc-zero}
use lib.ListN.{get_or}
use Rattle.task_set.specs.Bounded.{all, any, implies}
use Rattle.task_set.proofs.Bounded.{all_cong, all_both, all_rows, not_all}
use Rattle.plan.specs.Rules.{most_types, most_tasks, most_pairs, pair_index, time_of, usable, pair_ok, pairs_ok, some_type_ok, task_ok}
use Rattle.plan.specs.Steps.{pair_fits, pair_fits_at, no_type_from, types_ok, rest_ok}

-- a pair keeps its rule if it fits and is not used where the task or the type is absent
pair_parts : (here : Bool) (best worst : ℕ) → pair_ok here best worst ≡ pair_fits best worst && (here || not (ltb 0 worst))
unfolding pair_ok pair_fits
pair_parts here zero zero = sym (or-true here)
pair_parts here zero (suc worst) = simp (compare.zero-suc, compare.suc-zero, and-false)
pair_parts here (suc best) zero = simp (compare.suc-zero, and-false)
pair_parts here (suc best) (suc worst) =
    simp (
      compare.suc-zero,
      lt-ltb 0 (suc best) (zero-lt-suc best),
      lt-ltb 0 (suc worst) (zero-lt-suc worst),
      and-true,
      or-false,
    ) (and_comm here _)

time_at : (times : List ℕ) (t k : ℕ) → t < most_tasks → k < most_types → time_of times t k ≡ get_or times (pair_index t k) 0
unfolding time_of
time_at times t k l m = rw (lt-ltb t most_tasks l, lt-ltb k most_types m)

module _ (types tasks : ℕ) (bcet wcet predecessors : List ℕ) where
  -- the pairs of task t fit, where they stand in the row of all pairs
  abbrev row : ℕ → Bool
  row t = all most_types (λ k. pair_fits_at bcet wcet (pair_index t k))

  -- task t cannot use a type where one of them is absent
  abbrev unused : ℕ → Bool
  unused t = all most_types (λ k. (ltb t tasks && ltb k types) || not (usable wcet t k))

  pairs_parts : (t : ℕ) → t < most_tasks → pairs_ok types tasks bcet wcet t ≡ row t && unused t
  unfolding pairs_ok pair_fits_at usable
  pairs_parts t l =
      all_cong most_types _ (λ k. pair_fits_at bcet wcet (pair_index t k) && ((ltb t tasks && ltb k types) || not (usable wcet t k)))
      (λ k m. pair_parts (ltb t tasks && ltb k types) (time_of bcet t k) (time_of wcet t k)
      ∙ rw (time_at bcet t k l m, time_at wcet t k l m))
      ∙ all_both most_types _ _

  types_parts : (t : ℕ) → unused t && some_type_ok tasks wcet t ≡ types_ok types tasks wcet t
  unfolding some_type_ok types_ok no_type_from
  types_parts t = go (ltb t tasks)
    where
      go : (here : Bool) → all most_types (λ k. (here && ltb k types) || not (usable wcet t k)) && implies here
          (any most_types (usable wcet t))
          ≡ cond here (not (no_type_from wcet t 0) && no_type_from wcet t types) (no_type_from wcet t 0)
      go true = simp (leb-suc-zero, not_all, not-not) (and_comm (no_type_from wcet t types) (any most_types (usable wcet t)))
      go false = simp (leb-suc-zero, and-true)

  task_parts : (t : ℕ) → t < most_tasks → task_ok types tasks bcet wcet predecessors t
      ≡ row t && rest_ok types tasks wcet predecessors t
  unfolding task_ok rest_ok
  task_parts t l = rw (pairs_parts t l, ← types_parts t) (simp and_assoc)

  pub tasks_parts : all most_tasks (task_ok types tasks bcet wcet predecessors)
      ≡ all most_pairs (pair_fits_at bcet wcet) && all most_tasks (rest_ok types tasks wcet predecessors)
  tasks_parts =
      all_cong most_tasks _ _ task_parts ∙ all_both most_tasks row _ ∙ rw (all_rows most_tasks most_types (pair_fits_at bcet wcet))
