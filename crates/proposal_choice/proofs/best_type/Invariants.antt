-- `proposal_choice::best_type` meets its contract: `best` is the best of the types so far. Assumes nothing.
use Rattle.proposal_choice.specs.Steps.{BestBelow}
use Rattle.proposal_choice.proofs.best_type.Given as goal

abbrev pub invariant-loop-k : goal.invariant-loop-k
invariant-loop-k l = BestBelow l.p.units l.p.wcet l.t l.free l.held l.k l.best
