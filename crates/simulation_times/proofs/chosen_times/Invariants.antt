-- `simulation_times::chosen_times` meets its contract: the positions passed have their times. Assumes nothing.
use Rattle.simulation_times.specs.Times.{ChosenTimes}
use Rattle.simulation_times.proofs.chosen_times.Given as goal

abbrev pub invariant-loop-k : goal.invariant-loop-k
invariant-loop-k l = ChosenTimes l.times l.c.order l.c.chosen l.k l.by_task
