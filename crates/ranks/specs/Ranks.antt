-- What a task's rank is (document 02, 8), and 8 and 23, which refuse a plan without ranks. Assumes nothing.
use Rattle.std.specs.Prelude.{Bool, cond, not, List, Result, Ok, Err, ℕ, zero, suc, ◌+◌, ◌*◌, ◌/◌, ltb, replicate}
use Rattle.task_set.specs.Bounded.{count, tabulate}
use Rattle.plan.specs.declared.Plan.{Plan}
use Rattle.plan.specs.Rules.{most_types, most_tasks, time_of, usable, plan_ok}
use Rattle.dispatch_theory.specs.Sums.{sum, greatest}
use Rattle.ranks_arrows.specs.Arrows.{arrow, circle}
use Rattle.ranks.specs.declared.Unranked.{Unranked}
use Rattle.ranks.specs.declared.Unranked.TheVariants.{Faulty, Circular}

-- "so ranks are whole": a multiple of each number of types from 1 to 8
abbrev pub parts : ℕ
parts = 840

-- how many types the task t can use
unfoldable pub types_of : List ℕ → ℕ → ℕ
types_of wcet t = count most_types (usable wcet t)

-- "840 times the average worst time over its usable types"; on the other types its time is 0
unfoldable pub own_rank : List ℕ → ℕ → ℕ
own_rank wcet t = parts * sum most_types (time_of wcet t) / types_of wcet t

-- "plus the greatest rank among its successors, 0 if it has none", where arrows are followed through n tasks
unfoldable pub rank_within : ℕ → (ℕ → ℕ) → (ℕ → ℕ → Bool) → ℕ → ℕ → ℕ
rank_within zero own arrow tasks t = 0
rank_within (suc n) own arrow tasks t =
    own t + greatest tasks (λ u. cond (arrow t u) (rank_within n own arrow tasks u) 0)

-- arrows that never lead back pass through each task at most once
unfoldable pub rank_by : (ℕ → ℕ) → (ℕ → ℕ → Bool) → ℕ → ℕ → ℕ
rank_by own arrow tasks t = rank_within tasks own arrow tasks t

abbrev pub rank_of : List ℕ → List ℕ → ℕ → ℕ → ℕ
rank_of wcet predecessors tasks = rank_by (own_rank wcet) (arrow predecessors) tasks

-- the rank of each task, and 0 past the last task
unfoldable pub ranks_of : Plan → List ℕ
ranks_of p = tabulate most_tasks (λ t. cond (ltb t p.tasks) (rank_of p.wcet p.predecessors p.tasks t) 0)

-- the number of a refusal or 0, and the ranks or zeros
pub record Ranking : Type 0 where
  pub number : ℕ
  pub ranks : List ℕ

abbrev pub ranking_of : ℕ → List ℕ → Ranking
ranking_of number ranks = record { number = number; ranks = ranks }

abbrev pub no_ranks : ℕ → Ranking
no_ranks number = ranking_of number (replicate most_tasks 0)

-- "8, then 23 .. exactly if the arrows lead from some task back to itself"
unfoldable pub ranked : Plan → Ranking
ranked p =
    cond (not (plan_ok p)) (no_ranks 8)
    (cond (circle (arrow p.predecessors) p.tasks) (no_ranks 23)
    (ranking_of 0 (ranks_of p)))

-- the number of each reason why a plan has no ranks
abbrev pub number_of : Unranked → ℕ
number_of Faulty = 8
number_of Circular = 23

-- an answer, by number
abbrev pub ranking : Result (List ℕ) Unranked → Ranking
ranking (Ok ranks) = ranking_of 0 ranks
ranking (Err reason) = no_ranks (number_of reason)
