-- `plan_rules::types_ok` meets its contract. Assumes nothing.
use borrow.Author.Tests.{le-ltb, lt-ltb}
use Rattle.plan.specs.Steps.{types_ok}
use Rattle.plan_rules.proofs.types_ok.Goals as goal

pub returns-then-tasks-t : goal.returns-then-tasks-t
unfolding types_ok
returns-then-tasks-t c = rw (le-ltb _ _ c.if-tasks-t.true) c.no_type_from-none.ensures

pub returns : goal.returns
unfolding types_ok
returns c = rw (lt-ltb _ _ c.if-tasks-t.false, c.no_type_from-none.ensures, c.no_type_from.ensures)
