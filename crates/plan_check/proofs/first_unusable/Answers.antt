-- `plan_check::first_unusable` meets its contract. Assumes nothing.
use Rattle.std.proofs.Common.{rules}
use Rattle.task_set.proofs.Found.{found_by}
use Rattle.plan.specs.Refusals.{unusable}
use Rattle.plan_check.proofs.first_unusable.Goals as goal

pub returns : goal.returns
unfolding unusable
returns c = found_by _ _ _ _ _ c.find.ensures.ran (λ x q k. search rules) (λ x q k. search rules)
