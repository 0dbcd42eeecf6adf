-- `replay::tick_each` meets its contract: the answers so far, and what is left. Assumes nothing.
use mathlib.Core.Path.{refl}
use Prim.Native.Nat.{zero-le}
use Rattle.replay.proofs.Replaying.{answered_more, answered_all}
use Rattle.replay.proofs.tick_each.Goals as goal

pub loop-i-preserved : goal.loop-i-preserved
loop-i-preserved c =
    let l = c in
    answered_more _ _ _ _ _ _ _ _ _ _ l.loop-i-test.true c.tick-t.ensures l.loop-i.invariant

pub loop-i-init : goal.loop-i-init
loop-i-init c = record { within = zero-le; numbers_long = refl; places_long = refl; sets_long = refl; makes = refl }

pub returns : goal.returns
returns c = answered_all _ _ _ _ _ c.requires c.loop-i-test.false
    c.loop-i.invariant
