-- `plan_rules::all_tasks_ok` meets its contract. Assumes nothing.
use borrow.Author.Rules.{rules}
use Rattle.plan.specs.Steps.{rest_ok}
use Rattle.plan_rules.proofs.all_tasks_ok.Goals as goal

pub returns : goal.returns
unfolding rest_ok
returns c = c.all_below.ensures _ (λ i b l p. search rules)
