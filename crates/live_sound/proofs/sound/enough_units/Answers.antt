-- `live_sound::sound::enough_units` meets its contract. Assumes nothing.
use borrow.Author.Rules.{rules}
use Rattle.live_sound.specs.Steps.{enough_for}
use Rattle.live_sound.proofs.sound.enough_units.Goals as goal

pub returns : goal.returns
unfolding enough_for
returns c = c.all_below.ensures _ (λ t b l p. search rules)
