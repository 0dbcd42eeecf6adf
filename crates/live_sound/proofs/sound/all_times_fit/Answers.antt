-- `live_sound::sound::all_times_fit` meets its contract. Assumes nothing.
use borrow.Author.Rules.{rules}
use Rattle.live_sound.specs.Steps.{all_times_fit}
use Rattle.live_sound.proofs.sound.all_times_fit.Goals as goal

pub returns : goal.returns
unfolding all_times_fit
returns c = c.all_below.ensures _ (λ t b l p. search rules)
