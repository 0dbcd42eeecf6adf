-- `live_sound::sound::is_sound` meets its contract. Assumes nothing.
use mathlib.Core.Path.{refl}
use Rattle.live_sound.specs.Steps.{sound_by}
use Rattle.live_sound.proofs.sound.is_sound.Goals as goal

pub returns : goal.returns
unfolding sound_by
returns c =
    let d = c in
    rw (c.enough_units.ensures, c.all_times_fit.ensures, d.difference-running.ensures) refl
