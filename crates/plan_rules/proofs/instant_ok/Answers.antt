-- `plan_rules::instant_ok` meets its contract. Assumes nothing.
use Rattle.plan.specs.Rules.{instant_ok}
use Rattle.plan_rules.proofs.instant_ok.Goals as goal

pub returns : goal.returns
unfolding instant_ok
returns c = rw c.instant_of-i.ensures
