-- The tasks by falling rank, equal ranks by lower number. Assumes nothing.
use mathlib.Core.Path.{◌≡◌}
use mathlib.Core.Bool.{true, false}
use mathlib.Core.List.{List}
use Prim.Native.Nat.{ℕ, ◌<◌}
use borrow.Author.Tests.{lt-ltb}
use lib.Dec.{ltb}
use lib.ListN.{get_or}
use Rattle.task_set.proofs.Truth.{or_left}
use Rattle.task_set.proofs.Keyed as keyed
use Rattle.task_set.proofs.Keyed.{falling}
use Rattle.task_set.proofs.Ranking as ranking
use Rattle.proposal_theory.specs.Proposals.{before, place_of, task_at}

module _ (ranks : List ℕ) (tasks : ℕ) where
  abbrev rank : ℕ → ℕ
  rank t = get_or ranks t 0

  never : (t : ℕ) → before ranks t t ≡ false
  unfolding before
  never = keyed.never (λ x y. ltb y x) falling rank (λ t. t)

  chain : (t u v : ℕ) → before ranks t u ≡ true → before ranks u v ≡ true → before ranks t v ≡ true
  unfolding before
  chain = keyed.chain (λ x y. ltb y x) falling rank (λ t. t)

  either : (t u : ℕ) → t < tasks → u < tasks → (t ≡ u → ⊥) → before ranks t u ≡ false → before ranks u t ≡ true
  unfolding before
  either t u l m = keyed.either (λ x y. ltb y x) falling rank (λ t. t) t u

  pub place_low : (t : ℕ) → t < tasks → place_of ranks tasks t < tasks
  unfolding place_of
  place_low = ranking.place_low tasks (before ranks) never chain either

  pub task_place : (t : ℕ) → t < tasks → task_at ranks tasks (place_of ranks tasks t) ≡ t
  unfolding place_of task_at
  task_place = ranking.at_place tasks (before ranks) never chain either

  pub task_low : (k : ℕ) → k < tasks → task_at ranks tasks k < tasks
  unfolding place_of task_at
  task_low = ranking.at_low tasks (before ranks) never chain either

  pub task_once : (j k : ℕ) → j < tasks → k < tasks → task_at ranks tasks j ≡ task_at ranks tasks k → j ≡ k
  unfolding place_of task_at
  task_once = ranking.at_once tasks (before ranks) never chain either

  -- a greater rank has an earlier place
  pub greater_place : (t u : ℕ) → u < tasks → rank t < rank u → place_of ranks tasks u < place_of ranks tasks t
  unfolding place_of before
  greater_place t u l m = ranking.place_less tasks (before ranks) never chain either t u l (or_left _ (lt-ltb _ _ m))
