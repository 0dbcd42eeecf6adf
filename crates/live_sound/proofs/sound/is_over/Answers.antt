-- `live_sound::sound::is_over` meets its contract. Assumes nothing.
use Rattle.live_sound.proofs.Counting.{over_by}
use Rattle.live_sound.proofs.sound.is_over.Goals as goal

pub returns : goal.returns
returns c = over_by _ _ c.requires c.members_below-done.ensures c.member_count.ensures
