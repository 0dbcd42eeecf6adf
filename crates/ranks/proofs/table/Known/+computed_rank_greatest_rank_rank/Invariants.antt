-- A call of `rank` is for a member of the set, a call of `greatest_rank` for the tasks to which an arrow leads, or for one member
-- fewer: the measure is the number of places from the first one on in the legal order, and then the number of members.
-- Assumes nothing.
use Prim.Native.Nat.{◌+◌}
use Rattle.ranks.proofs.Found.{task_left, set_left}
use Rattle.ranks.proofs.table.Known.+computed_rank_greatest_rank_rank.Given as goal

abbrev pub decreases-greatest_rank : goal.decreases-greatest_rank
decreases-greatest_rank l = set_left l.self.now.plan.now.predecessors l.self.now.plan.now.tasks l.remaining

abbrev pub decreases-rank : goal.decreases-rank
decreases-rank l = task_left l.self.now.plan.now.predecessors l.self.now.plan.now.tasks l.t + 1

abbrev pub decreases-computed_rank : goal.decreases-computed_rank
decreases-computed_rank l = task_left l.self.now.plan.now.predecessors l.self.now.plan.now.tasks l.t
