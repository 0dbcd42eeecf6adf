-- `task_set::difference` meets its contract. Assumes nothing.
use mathlib.Core.Path.{refl}
use Rattle.task_set.specs.Sets.{without}
use Rattle.task_set.proofs.difference.Goals as goal

pub returns : goal.returns
unfolding without
returns c = refl
