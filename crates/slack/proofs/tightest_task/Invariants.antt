-- `slack::tightest_task` meets its contract: the lowest task with the least slack of those passed. Assumes nothing.
use Rattle.slack.proofs.Least.{Found}
use Rattle.slack.proofs.tightest_task.Given as goal

abbrev pub invariant-loop-t : goal.invariant-loop-t
invariant-loop-t l = Found l.p.deadlines l.slacks l.t l.best
