-- `plan_rules::all_pairs_fit` meets its contract. Assumes nothing.
use borrow.Author.Rules.{rules}
use Rattle.plan.specs.Steps.{pair_fits_at}
use Rattle.plan_rules.proofs.all_pairs_fit.Goals as goal

pub returns : goal.returns
unfolding pair_fits_at
returns c = c.all_below.ensures _ (λ i b l p. search rules)
