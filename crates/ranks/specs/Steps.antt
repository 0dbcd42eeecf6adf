-- What inner functions rely on and compute. No promise of a public function cites it. Assumes nothing.
use Rattle.std.specs.Prelude.{◌≡◌, true, false, cond, List, ◌⊎◌, ℕ, ◌≤◌, ◌<◌, length, get_or}
use Rattle.task_set.specs.Sets.{has}
use Rattle.plan.specs.Rules.{most_tasks, longest_time, time_of}
use Rattle.dispatch_theory.specs.Sums.{greatest}
use Rattle.ranks_arrows.specs.Arrows.{arrow, circle}
use Rattle.ranks_arrows.specs.Steps.{Known}
use Rattle.ranks.specs.Ranks.{types_of, rank_of}

-- what ranks ask of a plan: each task can use some type, times are not too long, and no arrows lead back
pub record Ready (wcet predecessors : List ℕ) (tasks : ℕ) : Type 0 where
  pub known : Known predecessors tasks
  pub usable : (t : ℕ) → t < tasks → 0 < types_of wcet t
  pub short : (t k : ℕ) → t < tasks → time_of wcet t k ≤ longest_time
  pub straight : circle (arrow predecessors) tasks ≡ false

-- ---- the table of the ranks found so far

-- each entry is 0, where the rank is not known, or the rank of a task
pub record Noted (wcet predecessors : List ℕ) (tasks : ℕ) (table : List ℕ) : Type 0 where
  pub long : length table ≡ most_tasks
  pub each : (u : ℕ) → (get_or table u 0 ≡ 0) ⊎ ((u < tasks) × (get_or table u 0 ≡ rank_of wcet predecessors tasks u))

-- each entry is as it was, or the rank of a task
pub record Grown (wcet predecessors : List ℕ) (tasks : ℕ) (table later : List ℕ) : Type 0 where
  pub long : length later ≡ length table
  pub each : (u : ℕ) → (get_or later u 0 ≡ get_or table u 0) ⊎ ((u < tasks) × (get_or later u 0 ≡ rank_of wcet predecessors tasks u))

-- what asking for the rank of t gives
pub record RankFound (wcet predecessors : List ℕ) (tasks t : ℕ) (table later : List ℕ) (r : ℕ) : Type 0 where
  pub is : r ≡ rank_of wcet predecessors tasks t
  pub noted : get_or later t 0 ≡ rank_of wcet predecessors tasks t
  pub grown : Grown wcet predecessors tasks table later

-- the greatest rank of the members of s
abbrev pub greatest_in : List ℕ → List ℕ → ℕ → ℕ → ℕ
greatest_in wcet predecessors tasks s = greatest tasks (λ u. cond (has s u) (rank_of wcet predecessors tasks u) 0)

-- what asking for it gives
pub record GreatestFound (wcet predecessors : List ℕ) (tasks s : ℕ) (table later : List ℕ) (r : ℕ) : Type 0 where
  pub is : r ≡ greatest_in wcet predecessors tasks s
  pub grown : Grown wcet predecessors tasks table later

-- the members of s are tasks
pub record AllTasks (tasks s : ℕ) : Type 0 where
  pub each : (u : ℕ) → has s u ≡ true → u < tasks
