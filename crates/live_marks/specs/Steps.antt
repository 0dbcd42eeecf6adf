-- The tasks at the first positions of an order, as sets. Assumes nothing.
use Rattle.std.specs.Prelude.{Bool, true, ◌&&◌, List, ℕ, ◌+◌, eqb, leb, get_or}
use Rattle.task_set.specs.Bounded.{any, tabulate}
use Rattle.task_set.specs.Sets.{width, set_of}
use Rattle.plan.specs.Rules.{most_types, time_of}
use Rattle.plan.specs.Refusals.{entry_at}
use Rattle.live_marks.specs.declared.Marks.{Marks}

-- the tasks at the first n positions of the order that pass q
unfoldable pub tasks_at : List ℕ → ℕ → (ℕ → Bool) → ℕ
tasks_at order n q = set_of width (λ t. any n (λ j. q j && eqb (entry_at order j) t))

-- the tasks at the first n positions
abbrev pub first_tasks : List ℕ → ℕ → ℕ
first_tasks order n = tasks_at order n (λ j. true)

-- those whose chosen type is k
abbrev pub type_users : List ℕ → List ℕ → ℕ → ℕ → ℕ
type_users order chosen n k = tasks_at order n (λ j. eqb (entry_at chosen j) k)

-- those whose start and worst time come to the instant i at the latest
abbrev pub reached : List ℕ → List ℕ → List ℕ → List ℕ → ℕ → ℕ → ℕ
reached wcet starts order chosen n i =
    tasks_at order n (λ j. leb (get_or starts (entry_at order j) 0 + time_of wcet (entry_at order j) (entry_at chosen j)) i)

-- what one pass over the positions finds, of which the first n have started
abbrev pub marks_of : List ℕ → List ℕ → List ℕ → List ℕ → ℕ → ℕ → ℕ → Marks
marks_of wcet starts order chosen len n instant =
    record {
      started = first_tasks order n;
      spent = reached wcet starts order chosen n instant;
      due = reached wcet starts order chosen n (instant + 1);
      users = tabulate most_types (type_users order chosen len);
    }
