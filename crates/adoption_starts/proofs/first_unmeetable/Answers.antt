-- `adoption_starts::first_unmeetable` meets its contract. Assumes nothing.
use Rattle.std.proofs.Common.{rules}
use Rattle.task_set.proofs.Found.{found_by}
use Rattle.adoption_starts.proofs.first_unmeetable.Goals as goal

pub returns : goal.returns
returns c = found_by _ _ _ _ _ c.find.ensures.ran (λ x q k. search rules) (λ x q k. search rules)
