-- `simulation::not_run` meets its contract. Assumes nothing.
use mathlib.Core.Path.{refl}
use Rattle.task_set.specs.Bounded.{tabulate}
use Rattle.simulation.specs.Simulated.{not_run}
use Rattle.simulation.proofs.not_run.Goals as goal

pub returns : goal.returns
unfolding not_run tabulate
returns c = refl
