-- `live::no_state` meets its contract. Assumes nothing.
use mathlib.Core.Path.{refl}
use Rattle.live.proofs.no_state.Goals as goal

pub returns : goal.returns
returns c = rw (c.no_plan-plan.ensures, c.no_constraint-constraint.ensures) refl
