-- `plan_rules::counts_ok` meets its contract. Assumes nothing.
use borrow.Author.Rules.{rules}
use Rattle.plan.specs.Rules.{counts_ok}
use Rattle.plan_rules.proofs.counts_ok.Goals as goal

pub returns : goal.returns
unfolding counts_ok
returns c = search rules
