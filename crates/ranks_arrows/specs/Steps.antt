-- What inner functions rely on and compute. No promise of a public function cites it. Assumes nothing.
use Rattle.std.specs.Prelude.{◌≡◌, true, cond, List, ℕ, zero, suc, ◌≤◌, ◌<◌}
use Rattle.task_set.specs.Sets.{width, has, insert, subset}
use Rattle.plan.specs.Rules.{most_tasks, predecessors_of}

-- few tasks, and no set names an absent one
pub record Known (predecessors : List ℕ) (tasks : ℕ) : Type 0 where
  pub few : tasks ≤ most_tasks
  pub named : (t u : ℕ) → t < tasks → u < width → has (predecessors_of predecessors t) u ≡ true → u < tasks

-- a set after a look at the tasks below n, one after the other: each joins whose predecessors are in it by then
unfoldable pub joined : List ℕ → ℕ → ℕ → ℕ
joined predecessors zero s = s
joined predecessors (suc n) s =
    let before = joined predecessors n s in
    cond (subset (predecessors_of predecessors n) before) (insert before n) before
