-- `simulation_waits::free_first` meets its contract: `best` is the unit looked at that is free first. Assumes nothing.

use native.Mathlib.Omega.{arith}
use borrow.Author.Rules.{rules}
use Rattle.simulation_waits.proofs.Waits.{first_one, first_stays, first_moves, first_in_array, first_end}
use Rattle.simulation_waits.proofs.free_first.Goals as goal
use Rattle.simulation_waits.proofs.free_first.Goals.{then-free-base, else-free-base}

pub offset_bounds-free-best : goal.offset_bounds-free-best
offset_bounds-free-best c =
    omega (arith, first_in_array _ _ _ _ c.loop-u.invariant.1 c.requires.0 (search rules))

pub loop-u-preserved : goal.loop-u-preserved
loop-u-preserved c = (
  search rules,
  elim c.if-free-base.branch [
    | then-free-base w ↦ rw w.best-is (first_moves _ _ _ _ c.loop-u.invariant.1 w.if-free-base.true)
    | else-free-base w ↦ rw w.best-is (first_stays _ _ _ _ c.loop-u.invariant.1 w.if-free-base.false)
  ],
)

pub loop-u-init : goal.loop-u-init
loop-u-init c = (search rules, first_one _ _)

pub bounds-free-best : goal.bounds-free-best
bounds-free-best c = first_in_array _ _ _ _ c.loop-u.invariant.1 c.requires.0 (search rules)

pub returns : goal.returns
returns c = first_end _ _ _ _ c.loop-u.invariant.1 (omega arith)
