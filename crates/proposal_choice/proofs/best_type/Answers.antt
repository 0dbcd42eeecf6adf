-- `proposal_choice::best_type` meets its contract: `best` is the best of the types so far. Assumes nothing.
use Rattle.proposal_choice.proofs.Choices.{best_none, best_end, best_found}
use Rattle.proposal_choice.proofs.best_type.Goals as goal

pub returns : goal.returns
returns c =
    let p = c.requires in
    let h = best_end c.loop-k.invariant c.loop-k-test.false in (h, best_found p.0 p.1 h)

pub loop-k-init : goal.loop-k-init
loop-k-init c = best_none

pub better_of-best-requires : goal.better_of-best-requires
better_of-best-requires c = (c.loop-k-test.true, (c.requires.0, (c.requires.1, c.loop-k.invariant)))

pub loop-k-preserved : goal.loop-k-preserved
loop-k-preserved c = c.better_of-best.ensures
