-- What inner functions rely on and compute. No promise of a public function cites it. Assumes nothing.
use Rattle.std.specs.Prelude.{◌≡◌, true, cond, List, ℕ, Option, None, Some, ◌+◌, ◌-◌, ◌≤◌, ◌<◌, max, leb, ltb, get_or}
use Rattle.task_set.specs.Bounded.{first}
use Rattle.plan.specs.Rules.{most_types, most_units, longest_time, last_instant, time_of, usable}
use Rattle.proposal_theory.specs.Proposals.{type_of, fits, finish_on}
use Rattle.proposal_theory.specs.Units.{slot}
use Rattle.proposal_choice.specs.declared.Best.{Best}

-- the earliest start on the first n units of type k
pub record Soonest (free : List ℕ) (k n held start : ℕ) : Type 0 where
  pub least : (u : ℕ) → u < n → start ≤ max (get_or free (slot k u) 0) held
  pub reached : (u : ℕ) × (u < n) × (start ≡ max (get_or free (slot k u) 0) held)

-- the first of n units of type k that is free at an instant
abbrev pub first_slot : List ℕ → ℕ → ℕ → ℕ → Option ℕ
first_slot free k n start =
    let u = first n (λ v. leb (get_or free (slot k v) 0) start) in
    cond (ltb u n) (Some (slot k u)) None

-- no instant is later when a task is placed
abbrev pub latest : ℕ
latest = last_instant - longest_time

-- a task that some unit fits, with times that a plan allows, while no instant is late
pub record Placeable (units wcet : List ℕ) (t : ℕ) (free : List ℕ) : Type 0 where
  pub usable_type : (k : ℕ) × (k < most_types) × (usable wcet t k ≡ true)
  pub some_units : (k : ℕ) → usable wcet t k ≡ true → 1 ≤ get_or units k 0
  pub few_units : (k : ℕ) → usable wcet t k ≡ true → get_or units k 0 ≤ most_units
  pub short : (k : ℕ) → time_of wcet t k ≤ longest_time
  pub comes_free : (n : ℕ) → get_or free n 0 ≤ latest

-- no task finishes so late
abbrev pub never : ℕ
never = last_instant + 1

-- the earliest finish on the units of type k, which the task can use; on each unit of a lower type it finishes later
pub record Reached (units wcet : List ℕ) (t : ℕ) (free : List ℕ) (held k finish : ℕ) : Type 0 where
  pub low : k < most_types
  pub usable_type : usable wcet t k ≡ true
  pub lasts : time_of wcet t k ≤ finish
  pub soonest : Soonest free k (get_or units k 0) held (finish - time_of wcet t k)
  pub lower_later : (n : ℕ) → type_of n < k → fits units wcet t n ≡ true → finish < finish_on wcet t free held n

-- the earliest finish on the types below k and the first type with it, or `never` where the task can use none
pub record BestBelow (units wcet : List ℕ) (t : ℕ) (free : List ℕ) (held k : ℕ) (b : Best) : Type 0 where
  pub least : (n : ℕ) → type_of n < k → fits units wcet t n ≡ true → b.finish ≤ finish_on wcet t free held n
  pub reached : b.finish < never → Reached units wcet t free held b.unit_type b.finish
