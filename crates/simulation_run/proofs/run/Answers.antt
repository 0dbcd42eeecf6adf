-- `simulation_run::run` meets its contract: what the arrays hold at each position. Assumes nothing.
use mathlib.Core.Path.{refl}
use mathlib.Core.List.{List}
use Prim.Native.Nat.{ℕ, ◌*◌, ◌<◌}
use native.Mathlib.Nat.{lt_of_lt_of_le}
use native.Mathlib.Omega.{arith}
use lib.ListN.{get_or}
use Rattle.plan.specs.Rules.{most_types, most_units, most_tasks}
use Rattle.plan.specs.declared.Plan.{Plan}
use Rattle.plan.specs.declared.Constraint.{Constraint}
use Rattle.plan.proofs.Accepted.{Accepted, accepted}
use Rattle.runs.proofs.Positions.{task_at, type_at}
use Rattle.runs.proofs.Orders.{Lasting}
use Rattle.simulation_times.specs.Times.{time_in}
use Rattle.simulation_run.specs.Steps.{Listed, Runnable}
use Rattle.simulation_run.proofs.Reached.{reached_none, reached_more, reached_end, next_start, finish_short}
use Rattle.simulation_waits.specs.Waits.{FreeFirst}
use Rattle.simulation_waits.proofs.Waits.{first_in_array}
use Rattle.simulation_run.proofs.run.Goals as goal

module _ (p : Plan) (c : Constraint) (times : List ℕ) (r : Runnable p c times) where
  -- the check takes the plan and the constraint
  taken : Accepted p c
  taken = accepted _ _ r.checked

  lasts : (d : ℕ → ℕ) → Listed p times d → Lasting p d
  lasts d h t l = omega (arith, h t l, r.some t l)

  -- the task and the type at a position, below the numbers of tasks and types, below the arrays' lengths
  task_low : (k : ℕ) → k < p.tasks → task_at c k < p.tasks
  task_low k l = taken.task k l

  type_low : (k : ℕ) → k < p.tasks → type_at c k < p.types
  type_low k l = taken.type k l

  low : (k : ℕ) → k < p.tasks → task_at c k < most_tasks
  low k l = lt_of_lt_of_le (task_low k l) taken.few_tasks

  of_type : (k : ℕ) → k < p.tasks → type_at c k < most_types
  of_type k l = lt_of_lt_of_le (type_low k l) taken.few_types

  place : (k : ℕ) → k < p.tasks → k < most_tasks
  place k l = lt_of_lt_of_le l taken.few_tasks

  -- the unit chosen has its place
  in_array : (free : List ℕ) (k u : ℕ) → k < p.tasks → FreeFirst free (type_at c k) (get_or p.units (type_at c k) 0) u
      → u < most_types * most_units
  in_array free k u l f = first_in_array _ _ _ _ f (of_type k l) (taken.few_units _ (type_low k l))

-- the latest of all that it waits for is the start of the position
pub overflow_add-finish : goal.overflow_add-finish
overflow_add-finish c =
    let d = time_in c.args.times.now in
    let a = taken _ _ _ c.requires in
    let s = lasts _ _ _ c.requires d (λ t l. refl) in
    omega (
      arith,
      next_start a d s (c.loop-k.invariant d (λ t l. refl)) c.loop-k-test.true c.free_first-unit.ensures
          c.predecessors_of-needed.ensures c.difference.ensures c.latest_finish-waited.ensures c.release_of.ensures
          c.max-earliest.ensures c.max.ensures c.max-last.ensures,
      finish_short a d s c.requires.short _ c.loop-k-test.true,
    )

pub loop-k-init : goal.loop-k-init
loop-k-init c = λ d h. reached_none (taken _ _ _ c.requires) d (lasts _ _ _ c.requires d h)

pub loop-k-preserved : goal.loop-k-preserved
loop-k-preserved c = λ d h.
    let a = taken _ _ _ c.requires in
    let s = lasts _ _ _ c.requires d h in
    let i = c.loop-k.invariant d h in
    reached_more a d s i c.loop-k-test.true c.free_first-unit.ensures c.predecessors_of-needed.ensures
    (next_start a d s i c.loop-k-test.true c.free_first-unit.ensures c.predecessors_of-needed.ensures c.difference.ensures
    c.latest_finish-waited.ensures c.release_of.ensures c.max-earliest.ensures c.max.ensures c.max-last.ensures)
    (h _ (task_low _ _ _ c.requires _ c.loop-k-test.true)) c.max-response.ensures

pub returns : goal.returns
returns c = λ d h.
    reached_end (taken _ _ _ c.requires) d (lasts _ _ _ c.requires d h) (c.loop-k.invariant d h) c.loop-k-test.false

pub offset_bounds-c-k : goal.offset_bounds-c-k
offset_bounds-c-k c = omega (arith, place _ _ _ c.requires _ c.loop-k-test.true)

pub bounds-c-k : goal.bounds-c-k
bounds-c-k c = place _ _ _ c.requires _ c.loop-k-test.true

pub offset_bounds-c-k-in-loop-k : goal.offset_bounds-c-k-in-loop-k
offset_bounds-c-k-in-loop-k c = omega (arith, place _ _ _ c.requires _ c.loop-k-test.true)

pub bounds-c-k-in-loop-k : goal.bounds-c-k-in-loop-k
bounds-c-k-in-loop-k c = place _ _ _ c.requires _ c.loop-k-test.true

pub offset_bounds-p-ty : goal.offset_bounds-p-ty
offset_bounds-p-ty c = omega (arith, of_type _ _ _ c.requires _ c.loop-k-test.true)

pub bounds-p-ty : goal.bounds-p-ty
bounds-p-ty c = of_type _ _ _ c.requires _ c.loop-k-test.true

pub free_first-unit-requires : goal.free_first-unit-requires
free_first-unit-requires c =
    let a = taken _ _ _ c.requires in
    let l = type_low _ _ _ c.requires _ c.loop-k-test.true in
    (of_type _ _ _ c.requires _ c.loop-k-test.true, (a.some_units _ l, a.few_units _ l))

pub offset_bounds-free-unit : goal.offset_bounds-free-unit
offset_bounds-free-unit c = omega (arith, in_array _ _ _ c.requires _ _ _ c.loop-k-test.true c.free_first-unit.ensures)

pub bounds-free-unit : goal.bounds-free-unit
bounds-free-unit c = in_array _ _ _ c.requires _ _ _ c.loop-k-test.true c.free_first-unit.ensures

pub offset_bounds-times-t : goal.offset_bounds-times-t
offset_bounds-times-t c = omega (arith, low _ _ _ c.requires _ c.loop-k-test.true)

pub bounds-times-t : goal.bounds-times-t
bounds-times-t c = lt_of_lt_of_le (task_low _ _ _ c.requires _ c.loop-k-test.true) c.requires.enough

pub offset_bounds-starts-t : goal.offset_bounds-starts-t
offset_bounds-starts-t c = omega (arith, low _ _ _ c.requires _ c.loop-k-test.true)

pub bounds-starts-t : goal.bounds-starts-t
bounds-starts-t c = low _ _ _ c.requires _ c.loop-k-test.true

pub offset_bounds-finishes-t : goal.offset_bounds-finishes-t
offset_bounds-finishes-t c = omega (arith, low _ _ _ c.requires _ c.loop-k-test.true)

pub bounds-finishes-t : goal.bounds-finishes-t
bounds-finishes-t c = low _ _ _ c.requires _ c.loop-k-test.true

pub offset_bounds-free-unit-in-loop-k : goal.offset_bounds-free-unit-in-loop-k
offset_bounds-free-unit-in-loop-k c = omega (arith, in_array _ _ _ c.requires _ _ _ c.loop-k-test.true c.free_first-unit.ensures)

pub bounds-free-unit-in-loop-k : goal.bounds-free-unit-in-loop-k
bounds-free-unit-in-loop-k c = in_array _ _ _ c.requires _ _ _ c.loop-k-test.true c.free_first-unit.ensures
