-- `replay::tick_each` meets its contract: the answers so far, and what is left. Assumes nothing.
use Rattle.replay.proofs.Replaying.{Answered}
use Rattle.replay.proofs.tick_each.Given as goal

abbrev pub invariant-loop-i : goal.invariant-loop-i
invariant-loop-i l = Answered l.reports l.initial.numbers l.initial.places l.initial.sets l.fn.state l.numbers l.places l.sets l.state l.i
