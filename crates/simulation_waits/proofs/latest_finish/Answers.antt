-- `simulation_waits::latest_finish` meets its contract: what is passed and what is left make the whole. Assumes nothing.
use mathlib.Core.Path.{◌∙◌}
use native.Mathlib.Nat.{zero-max}
use borrow.Author.Rules.{rules}
use Rattle.task_set.proofs.Members.{lowest_low, fewer_left}
use Rattle.simulation_waits.proofs.Waits.{latest_more, latest_end}
use Rattle.simulation_waits.proofs.latest_finish.Goals as goal

pub loop-left-smaller : goal.loop-left-smaller
loop-left-smaller c =
    rw c.without_lowest-left.ensures
    (fewer_left _ c.loop-left.invariant.0 c.loop-left-test.true)

pub loop-left-preserved : goal.loop-left-preserved
loop-left-preserved c =
    let l = c in (
      search rules,
      rw (c.without_lowest-left.ensures, c.max-latest.ensures, c.lowest_member-t.ensures)
          (latest_more _ l.loop-left.invariant.0 c.loop-left-test.true _ _ ∙ l.loop-left.invariant.1),
    )

pub loop-left-init : goal.loop-left-init
loop-left-init c = (c.ranges.s.fits, zero-max _)

pub bounds-finishes-t : goal.bounds-finishes-t
bounds-finishes-t c = rw c.lowest_member-t.ensures (lowest_low _ c.loop-left.invariant.0 c.loop-left-test.true)

pub returns : goal.returns
returns c = latest_end _ c.loop-left-test.false c.loop-left.invariant.1
