-- `plan_check::first_misplaced` meets its contract: no fault so far, and `seen` holds the tasks passed. Assumes nothing.
use Rattle.task_set.proofs.Search.{Searched}
use Rattle.plan.specs.Refusals.{misplaced}
use Rattle.plan_check.proofs.Placing.{Holds}
use Rattle.plan_check.proofs.first_misplaced.Given as goal

abbrev pub invariant-loop-i : goal.invariant-loop-i
invariant-loop-i l = Searched l.p.tasks (misplaced l.p.tasks l.c.order) l.i × Holds l.c.order l.i l.seen
