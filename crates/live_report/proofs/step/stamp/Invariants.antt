-- `live_report::step::stamp` meets its contract: what is stamped and what is left make the whole. Assumes nothing.
use Prim.Native.Nat.{◌<◌, ◌^◌}
use Rattle.task_set.specs.Bounded.{tabulate}
use Rattle.task_set.specs.Sets.{size, width}
use Rattle.plan.specs.Rules.{most_tasks}
use Rattle.live_report.specs.Steps.{stamp_at}
use Rattle.live_report.proofs.Stamps.{Stamped}
use Rattle.live_report.proofs.step.stamp.Given as goal

abbrev pub invariant-loop-left : goal.invariant-loop-left
invariant-loop-left l = (l.left < 2 ^ width)
    × Stamped (tabulate most_tasks (stamp_at l.initial.finishes l.report l.instant)) l.instant l.finishes l.left

abbrev pub decreases-loop-left : goal.decreases-loop-left
decreases-loop-left l = size l.left
