-- `live_marks::mark_positions` meets its contract: the sets hold what the positions passed give. Assumes nothing.
use mathlib.Core.Path.{refl, ◌∙◌}
use Rattle.task_set.specs.Bounded.{tabulate}
use Rattle.live_marks.proofs.Marking.{marked_none, marked_past, marked_more, came, stays}
use Rattle.live_marks.proofs.mark_positions.Goals as goal
use Rattle.live_marks.proofs.mark_positions.Goals.{then-i-n+then-worst-at-2, then-i-n+else-worst-at-2, else-i-n}
use Rattle.live_marks.proofs.mark_positions.Goals.{then-worst-at, else-worst-at}

pub loop-i-init : goal.loop-i-init
unfolding tabulate
loop-i-init c = marked_none _ _ _ _ _ _

pub loop-i-preserved : goal.loop-i-preserved
loop-i-preserved c =
    let h = c.loop-i.invariant in
    let type = c.requires.0.type c.loop-i.i c.loop-i-test.true in
    elim c.if-i-n.branch [
      | then-i-n+then-worst-at-2 w ↦
          rw (w.started-is, w.spent-is, w.due-is)
          (marked_more _ _ _ _ _ _ h c.loop-i-test.true type c.inserted.ensures w.if-i-n.true
          c.from-at.ensures w.from.ensures (w.from-then-i-n.ensures ∙ w.time_of.ensures)
          w.inserted-started.ensures
          (elim w.if-worst-at.branch [
            | then-worst-at v ↦ came _ v.if-worst-at.true (v.spent-is ∙ v.inserted-spent.ensures)
            | else-worst-at v ↦ stays _ v.if-worst-at.false v.spent-is
          ])
          (came _ w.if-worst-at-2.true w.inserted-due.ensures))
      | then-i-n+else-worst-at-2 w ↦
          rw (w.started-is, w.spent-is, w.due-is)
          (marked_more _ _ _ _ _ _ h c.loop-i-test.true type c.inserted.ensures w.if-i-n.true
          c.from-at.ensures w.from.ensures (w.from-then-i-n.ensures ∙ w.time_of.ensures)
          w.inserted-started.ensures
          (elim w.if-worst-at.branch [
            | then-worst-at v ↦ came _ v.if-worst-at.true (v.spent-is ∙ v.inserted-spent.ensures)
            | else-worst-at v ↦ stays _ v.if-worst-at.false v.spent-is
          ])
          (stays _ w.if-worst-at-2.false refl))
      | else-i-n w ↦
          rw (w.started-is, w.spent-is, w.due-is)
          (marked_past _ _ _ _ _ _ h c.loop-i-test.true type c.inserted.ensures w.if-i-n.false)
    ]
