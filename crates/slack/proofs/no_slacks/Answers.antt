-- `slack::no_slacks` meets its contract. Assumes nothing.
use mathlib.Core.Path.{refl}
use Rattle.slack.specs.Margins.{no_slacks}
use Rattle.slack.proofs.no_slacks.Goals as goal

pub returns : goal.returns
unfolding no_slacks
returns c = refl
