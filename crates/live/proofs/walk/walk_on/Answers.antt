-- `live::walk::walk_on` meets its contract. Assumes nothing.
use Rattle.plan.proofs.Accepted.{accepted, positions}
use Rattle.live.proofs.WalkedStates.{walked_by}
use Rattle.live.proofs.walk.walk_on.Goals as goal

pub walk-w-requires : goal.walk-w-requires
walk-w-requires c = positions _ _
    (accepted _ _ c.requires.tidy.checked)

pub returns : goal.returns
returns c = walked_by _ c.requires
    c.walk-w.ensures c.difference.ensures
