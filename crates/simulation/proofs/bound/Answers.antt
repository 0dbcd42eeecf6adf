-- `simulation::bound` meets its contract. Assumes nothing.
use mathlib.Core.Path.{◌∙◌}
use Rattle.simulation.proofs.Answers.{with-sum}
use Rattle.simulation.proofs.bound.Goals as goal

pub returns : goal.returns
returns c = with-sum _ _ (c.told.ensures ∙ c.run_worst.ensures)
