-- Times by task number: those of the chosen types, and the lowest that is out of range. Assumes nothing.
use Rattle.std.specs.Prelude.{◌≡◌, Bool, true, false, not, List, ℕ, Option, None, Some, ◌≤◌, ◌<◌, length, get_or}
use Rattle.plan.specs.Rules.{most_tasks, time_of, between}
use Rattle.plan.specs.Refusals.{entry_at}

-- "one time for each task, by task number"
abbrev pub time_in : List ℕ → ℕ → ℕ
time_in times t = get_or times t 0

-- the task at each of the first n positions has the time of its chosen type
pub record ChosenTimes (times order chosen : List ℕ) (n : ℕ) (by_task : List ℕ) : Type 0 where
  pub whole : length by_task ≡ most_tasks
  pub at_position : (i : ℕ) → i < n → time_in by_task (entry_at order i) ≡ time_of times (entry_at order i) (entry_at chosen i)

-- the time of the task at position i is not from 1 to the worst of its chosen type
unfoldable pub outside_at : List ℕ → List ℕ → List ℕ → List ℕ → ℕ → Bool
outside_at wcet order chosen times i =
    let t = entry_at order i in
    not (between 1 (time_in times t) (time_of wcet t (entry_at chosen i)))

-- r is the lowest of n tasks that stands at one of the first k positions and fails, and n where there is none
pub record LowestOf (n : ℕ) (order : List ℕ) (fails : ℕ → Bool) (k r : ℕ) : Type 0 where
  pub within : r ≤ n
  pub passed : (i : ℕ) → i < k → entry_at order i < r → fails i ≡ false
  pub found : r < n → (i : ℕ) × (i < k) × (entry_at order i ≡ r) × (fails i ≡ true)

-- the lowest of n tasks in an order of these that fails, and none where none does
abbrev pub Lowest : ℕ → List ℕ → (ℕ → Bool) → Option ℕ → Type 0
Lowest n order fails (Some r) = (r < n) × LowestOf n order fails n r
Lowest n order fails None = LowestOf n order fails n n
