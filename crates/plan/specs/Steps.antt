-- What inner functions compute and rely on, here and in the crates above. No promise of a public function cites it.
-- Assumes nothing.
use Rattle.std.specs.Prelude.{◌≡◌, Bool, cond, ◌&&◌, ◌||◌, not, List, ℕ, ◌≤◌, ◌<◌, eqb, leb, ltb, get_or}
use Rattle.task_set.specs.Bounded.{all, any}
use Rattle.task_set.specs.Sets.{has, width}
use Rattle.plan.specs.Rules.{most_types, most_tasks, longest_time, predecessors_of, usable, predecessors_ok}
use Rattle.plan.specs.Refusals.{entry_at}

-- a pair is 0 and 0, or 1 ≤ best ≤ worst, and worst at most the longest time
unfoldable pub pair_fits : ℕ → ℕ → Bool
pair_fits best worst = leb best worst && (leb worst longest_time && (eqb worst 0 || leb 1 best))

-- the pair at i is so, of all pairs in one row
unfoldable pub pair_fits_at : List ℕ → List ℕ → ℕ → Bool
pair_fits_at bcet wcet i = pair_fits (get_or bcet i 0) (get_or wcet i 0)

-- the task t can use no type from n on
unfoldable pub no_type_from : List ℕ → ℕ → ℕ → Bool
no_type_from wcet t n = all most_types (λ k. ltb k n || not (usable wcet t k))

-- a present task can use some type and no absent one, an absent task can use none
unfoldable pub types_ok : ℕ → ℕ → List ℕ → ℕ → Bool
types_ok types tasks wcet t = cond (ltb t tasks) (not (no_type_from wcet t 0) && no_type_from wcet t types) (no_type_from wcet t 0)

-- what is left of the rules of one task number where its pairs fit
unfoldable pub rest_ok : ℕ → ℕ → List ℕ → List ℕ → ℕ → Bool
rest_ok types tasks wcet predecessors t = types_ok types tasks wcet t && predecessors_ok tasks predecessors t

-- the task u stands before position i of the order
unfoldable pub placed : List ℕ → ℕ → ℕ → Bool
placed order i u = any i (λ j. eqb (entry_at order j) u)

-- some predecessor of the task at position i does not stand before it
unfoldable pub unmet : List ℕ → List ℕ → ℕ → Bool
unmet predecessors order i = any width (λ u. has (predecessors_of predecessors (entry_at order i)) u && not (placed order i u))

-- the first n entries of an accepted order: tasks below n, no two the same, with types that are kept
pub record Positions (order chosen : List ℕ) (n : ℕ) : Type 0 where
  pub few : n ≤ most_tasks
  pub task : (i : ℕ) → i < n → entry_at order i < n
  pub once : (i j : ℕ) → i < n → j < n → entry_at order i ≡ entry_at order j → i ≡ j
  pub type : (i : ℕ) → i < n → entry_at chosen i < most_types
