-- What callers use of a plan and a constraint that the check takes. Assumes nothing.
use mathlib.Core.Path.{◌≡◌}
use mathlib.Core.Bool.{true}
use Prim.Native.Nat.{ℕ, ◌≤◌, ◌<◌}
use native.Mathlib.Nat.{lt_of_lt_of_le}
use borrow.Author.Tests.{leb-false, not-false}
use lib.Dec.{leb}
use lib.ListN.{get_or}
use Rattle.task_set.specs.Sets.{width, has}
use Rattle.task_set.proofs.Truth.{or_left_off, or_right_off}
use Rattle.plan.specs.declared.Plan.{Plan}
use Rattle.plan.specs.declared.Constraint.{Constraint}
use Rattle.plan.specs.Rules.{most_types, most_units, most_tasks, latest_deadline, latest_release, time_of, predecessors_of, deadline_of, release_of, plan_ok}
use Rattle.plan.specs.Refusals.{entry_at, unusable, verdict}
use Rattle.plan.specs.Steps.{Positions}
use Rattle.plan.proofs.Kept.{Times, some_types, few_types, some_tasks, few_tasks, due_task, release_low, some_units, few_units, usable_times}
use Rattle.plan.proofs.Arranged.{low, once, somewhere, before}
use Rattle.plan.proofs.Verdicts.{Passed, passed}

-- the tasks and types are those of the document's sentences; positions of the order go from 0 up to the number of tasks
pub record Accepted (p : Plan) (c : Constraint) : Type 0 where
  pub some_types : 1 ≤ p.types
  pub few_types : p.types ≤ most_types
  pub some_tasks : 1 ≤ p.tasks
  pub few_tasks : p.tasks ≤ most_tasks
  pub some_units : (k : ℕ) → k < p.types → 1 ≤ get_or p.units k 0
  pub few_units : (k : ℕ) → k < p.types → get_or p.units k 0 ≤ most_units
  pub whole : c.len ≡ p.tasks
  -- each position has a task of the plan, no two the same, and each task has a position
  pub task : (i : ℕ) → i < p.tasks → entry_at c.order i < p.tasks
  pub once : (i j : ℕ) → i < p.tasks → j < p.tasks → entry_at c.order i ≡ entry_at c.order j → i ≡ j
  pub somewhere : (t : ℕ) → t < p.tasks → (i : ℕ) × (i < p.tasks) × (entry_at c.order i ≡ t)
  -- the chosen type is one of the plan, and the task's times on it are in range
  pub type : (i : ℕ) → i < p.tasks → entry_at c.chosen i < p.types
  pub times : (i : ℕ) → i < p.tasks
      → Times (time_of p.bcet (entry_at c.order i) (entry_at c.chosen i))
      (time_of p.wcet (entry_at c.order i) (entry_at c.chosen i))
  -- predecessors stand earlier
  pub earlier : (i u : ℕ) → i < p.tasks → u < width → has (predecessors_of p.predecessors (entry_at c.order i)) u ≡ true
      → (j : ℕ) × (j < i) × (entry_at c.order j ≡ u)
  -- only tasks of the plan have deadlines, and these are in range
  pub due : (t : ℕ) → 0 < deadline_of p.deadlines t → (t < p.tasks) × (deadline_of p.deadlines t ≤ latest_deadline)
  -- no not-before instant is later than the latest
  pub released : (t : ℕ) → release_of p.releases t ≤ latest_release

pub accepted : (p : Plan) (c : Constraint) → (verdict p c).number ≡ 0 → Accepted p c
unfolding unusable
accepted p c e =
    record {
      some_types = some_types p kept;
      few_types = few_types p kept;
      some_tasks = some_tasks p kept;
      few_tasks = few_tasks p kept;
      some_units = some_units p kept;
      few_units = few_units p kept;
      whole = q.whole;
      task = low p.tasks c.order q.placed;
      once = once p.tasks c.order q.placed;
      somewhere = somewhere p.tasks c.order q.placed;
      type = type;
      times = λ i l.
          usable_times p kept (entry_at c.order i) (low p.tasks c.order q.placed i l) (entry_at c.chosen i)
          (type i l)
          (not-false _ (or_right_off (leb p.types (entry_at c.chosen i)) _ (q.usable i l)));
      due = due_task p kept;
      released = release_low p kept;
      earlier = λ i u l. before p kept c.order q.placed i l (q.ordered i l) u;
    }
  where
    q : Passed p c
    q = passed p c e

    kept : plan_ok p ≡ true
    kept = q.kept

    type : (i : ℕ) → i < p.tasks → entry_at c.chosen i < p.types
    type i l =
        leb-false p.types (entry_at c.chosen i) (or_left_off (leb p.types (entry_at c.chosen i)) _ (q.usable i l))

-- what a pass over the positions relies on
pub positions : (p : Plan) (c : Constraint) → Accepted p c → Positions c.order c.chosen c.len
positions p c a =
    rw a.whole
    (record { few = a.few_tasks; task = a.task; once = a.once; type = λ i l. lt_of_lt_of_le (a.type i l) a.few_types })
