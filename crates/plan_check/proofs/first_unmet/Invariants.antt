-- `plan_check::first_unmet` meets its contract: no fault so far, and `placed` holds the tasks passed. Assumes nothing.
use Rattle.task_set.proofs.Search.{Searched}
use Rattle.plan.specs.Steps.{unmet}
use Rattle.plan_check.proofs.Placing.{Holds}
use Rattle.plan_check.proofs.first_unmet.Given as goal

abbrev pub invariant-loop-i : goal.invariant-loop-i
invariant-loop-i l = Searched l.p.tasks (unmet l.p.predecessors l.c.order) l.i × Holds l.c.order l.i l.placed
