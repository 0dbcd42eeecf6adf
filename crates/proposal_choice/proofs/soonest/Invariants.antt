-- `proposal_choice::soonest` meets its contract: none so far is free by then. Assumes nothing.
use Rattle.proposal_choice.proofs.Choices.{Awaited}
use Rattle.proposal_choice.proofs.soonest.Given as goal

abbrev pub invariant-loop-u : goal.invariant-loop-u
invariant-loop-u l = Awaited l.free l.k l.n l.held l.u l.start
