-- What inner functions compute. No promise of a public function cites it. Assumes nothing.
use Rattle.std.specs.Prelude.{List, ℕ, get_or}
use Rattle.task_set.specs.Bounded.{tabulate}
use Rattle.task_set.specs.Sets.{insert}
use Rattle.plan.specs.Rules.{most_tasks}

-- each task of a list as the set with that one member
unfoldable pub members_of : List ℕ → List ℕ
members_of tasks = tabulate most_tasks (λ i. insert 0 (get_or tasks i 0))
