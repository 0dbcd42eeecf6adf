-- `live_marks::mark_positions` meets its contract: the sets hold what the positions passed give. Assumes nothing.
use Rattle.live_marks.proofs.Marking.{Marked}
use Rattle.live_marks.proofs.mark_positions.Given as goal

abbrev pub invariant-loop-i : goal.invariant-loop-i
invariant-loop-i l = Marked l.p.wcet l.starts l.c.order l.c.chosen l.n l.instant l.c.len l.i
    (record { started = l.started; spent = l.spent; due = l.due; users = l.users })
