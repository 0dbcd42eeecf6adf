-- `plan_rules::pair_fits` meets its contract. Assumes nothing.
use borrow.Author.Rules.{rules}
use Rattle.plan.specs.Steps.{pair_fits}
use Rattle.plan_rules.proofs.pair_fits.Goals as goal

pub returns : goal.returns
unfolding pair_fits
returns c = search rules
