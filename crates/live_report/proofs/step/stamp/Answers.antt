-- `live_report::step::stamp` meets its contract: what is stamped and what is left make the whole. Assumes nothing.
use mathlib.Core.Path.{refl}
use borrow.Author.Rules.{rules}
use Rattle.task_set.proofs.Members.{lowest_low, fewer_left}
use Rattle.live_report.proofs.Stamps.{stamped_more, stamped_all}
use Rattle.live_report.proofs.step.stamp.Goals as goal

pub loop-left-smaller : goal.loop-left-smaller
loop-left-smaller c =
    rw (c.removed-left.ensures, c.lowest_member-t.ensures)
    (fewer_left _ c.loop-left.invariant.0 c.loop-left-test.true)

pub loop-left-preserved : goal.loop-left-preserved
loop-left-preserved c =
    let l = c.loop-left.invariant in (
      search rules,
      rw (c.removed-left.ensures, c.lowest_member-t.ensures)
          (stamped_more _ l.0 c.loop-left-test.true _ l.1),
    )

pub loop-left-init : goal.loop-left-init
loop-left-init c = (c.ranges.report.fits, record { long = search rules; makes = refl })

pub bounds-finishes-t : goal.bounds-finishes-t
bounds-finishes-t c = rw c.lowest_member-t.ensures (lowest_low _ c.loop-left.invariant.0 c.loop-left-test.true)

pub returns : goal.returns
returns c = stamped_all _ c.loop-left-test.false c.loop-left.invariant.1
