-- `slack::tightest_task` meets its contract: the lowest task with the least slack of those passed. Assumes nothing.
use Rattle.slack.proofs.Least.{found_end}
use Rattle.slack.proofs.tightest_task.Goals as goal

pub returns : goal.returns
returns c = found_end _ _ _ c.loop-t-test.false c.loop-t.invariant
