-- `plan::is_usable` meets its contract. Assumes nothing.
use mathlib.Core.Path.{ap}
use lib.Dec.{ltb}
use Rattle.plan.specs.Rules.{usable}
use Rattle.plan.proofs.is_usable.Goals as goal

pub returns : goal.returns
unfolding usable
returns c = ap (ltb 0) c.time_of.ensures
