-- `adoption_starts::holds` meets its contract. Assumes nothing.
use Rattle.std.proofs.Common.{rules}
use Rattle.adoption_theory.specs.Schedules.{holds}
use Rattle.adoption_starts.proofs.holds.Goals as goal

pub returns : goal.returns
unfolding holds
returns c = search rules
