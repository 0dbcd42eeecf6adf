-- `simulation_times::first_outside` meets its contract: the lowest of the positions passed. Assumes nothing.
use native.Mathlib.Omega.{arith}
use Rattle.simulation_times.proofs.Lowest.{outside_by, lowest_none, lowest_falls, lowest_stays, lowest_end, lowest_told}
use Rattle.simulation_times.proofs.first_outside.Goals as goal
use Rattle.simulation_times.proofs.first_outside.Goals.{then-within-t, else-within-t}

pub offset_bounds-times-t : goal.offset_bounds-times-t
offset_bounds-times-t c =
    let o = c.requires.0 in omega
    (arith, o.few, o.task _ c.loop-k-test.true)

pub bounds-times-t : goal.bounds-times-t
bounds-times-t c =
    let o = c.requires in omega
    (arith, o.0.task _ c.loop-k-test.true)

pub loop-k-preserved : goal.loop-k-preserved
loop-k-preserved c =
    let e = outside_by _ _ _ _ _ c.time_of.ensures in
    elim c.if-within-t.branch [
      | then-within-t w ↦ rw w.lowest-is (lowest_falls c.loop-k.invariant e w.if-within-t.true)
      | else-within-t w ↦ rw w.lowest-is (lowest_stays c.loop-k.invariant e w.if-within-t.false)
    ]

pub loop-k-init : goal.loop-k-init
loop-k-init c = lowest_none

pub returns : goal.returns
returns c = lowest_told (lowest_end c.loop-k.invariant (omega arith)) c.then_some.ensures
