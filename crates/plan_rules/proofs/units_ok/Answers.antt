-- `plan_rules::units_ok` meets its contract. Assumes nothing.
use borrow.Author.Rules.{rules}
use Rattle.plan.specs.Rules.{units_ok}
use Rattle.plan_rules.proofs.units_ok.Goals as goal

pub returns : goal.returns
unfolding units_ok
returns c = search rules
