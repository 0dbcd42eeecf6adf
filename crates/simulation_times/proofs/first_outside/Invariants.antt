-- `simulation_times::first_outside` meets its contract: the lowest of the positions passed. Assumes nothing.
use Rattle.simulation_times.specs.Times.{outside_at, LowestOf}
use Rattle.simulation_times.proofs.first_outside.Given as goal

abbrev pub invariant-loop-k : goal.invariant-loop-k
invariant-loop-k l = LowestOf l.tasks l.c.order (outside_at l.p.wcet l.c.order l.c.chosen l.times) l.k l.lowest
