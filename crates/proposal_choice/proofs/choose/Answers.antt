-- `proposal_choice::choose` meets its contract. Assumes nothing.
use Rattle.proposal_choice.proofs.Choices.{found, chosen}
use Rattle.proposal_choice.proofs.choose.Goals as goal

pub first_free-requires : goal.first_free-requires
first_free-requires c =
    let r = c.best_type-best.ensures.1 in (r.low, c.requires.1.few_units _ r.usable_type)

pub unwrap-unit-requires : goal.unwrap-unit-requires
unwrap-unit-requires c = rw (found c.requires.1 c.best_type-best.ensures.1 c.time_of.ensures c.first_free.ensures)

pub returns : goal.returns
returns c =
    let h = c.best_type-best.ensures in
    chosen c.requires.1 h.1 h.0.least c.time_of.ensures c.first_free.ensures c.unwrap-unit.ensures
