-- What a position of the order waits for. Assumes nothing.
use Rattle.std.specs.Prelude.{◌≡◌, cond, List, ℕ, ◌+◌, ◌*◌, ◌≤◌, ◌<◌, get_or}
use Rattle.task_set.specs.Sets.{width, has}
use Rattle.plan.specs.Rules.{most_units}
use Rattle.dispatch_theory.specs.Sums.{greatest}

-- the latest finish of the members of a set
unfoldable pub latest_of : List ℕ → ℕ → ℕ
latest_of finishes s = greatest width (λ t. cond (has s t) (get_or finishes t 0) 0)

-- where an array of the units, type by type, keeps unit u of a type: the instant from which it is free
abbrev pub unit_index : ℕ → ℕ → ℕ
unit_index ty u = ty * most_units + u

abbrev pub free_from : List ℕ → ℕ → ℕ → ℕ
free_from free ty u = get_or free (unit_index ty u) 0

-- the index is that of a unit of the type, of which there are n, that is free no later than the others
pub record FreeFirst (free : List ℕ) (ty n index : ℕ) : Type 0 where
  pub unit : ℕ
  pub low : unit < n
  pub index_is : index ≡ unit_index ty unit
  pub least : (u : ℕ) → u < n → free_from free ty unit ≤ free_from free ty u
