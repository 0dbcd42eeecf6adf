-- `simulation_times::chosen_times` meets its contract: the positions passed have their times. Assumes nothing.
use native.Mathlib.Nat.{lt_of_lt_of_le}
use native.Mathlib.Omega.{arith}
use Rattle.simulation_times.proofs.Chosen.{chosen_none, chosen_more, chosen_end}
use Rattle.simulation_times.proofs.chosen_times.Goals as goal

pub offset_bounds-by_task-t : goal.offset_bounds-by_task-t
offset_bounds-by_task-t c =
    let o = c.requires in omega
    (arith, o.few, o.task _ c.loop-k-test.true)

pub bounds-by_task-t : goal.bounds-by_task-t
bounds-by_task-t c =
    let o = c.requires in lt_of_lt_of_le
    (o.task _ c.loop-k-test.true) o.few

pub loop-k-preserved : goal.loop-k-preserved
loop-k-preserved c = chosen_more c.requires c.loop-k-test.true c.loop-k.invariant c.time_of.ensures

pub loop-k-init : goal.loop-k-init
loop-k-init c = chosen_none

pub returns : goal.returns
returns c = chosen_end c.loop-k.invariant c.loop-k-test.false
