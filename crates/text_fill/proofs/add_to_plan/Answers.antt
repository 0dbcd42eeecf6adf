-- `text_fill::add_to_plan` meets its contract. Assumes nothing.
use native.Mathlib.Omega.{arith}
use borrow.Author.Tests.{lt-ltb}
use Rattle.plan.specs.Rules.{most_tasks, predecessors_of}
use Rattle.text_fill.proofs.InRange.{times_place, arrow_to}
use Rattle.text_fill.proofs.add_to_plan.Goals as goal

pub offset_bounds-p-pair : goal.offset_bounds-p-pair
offset_bounds-p-pair c = omega (arith, times_place c.requires.1 c.in-Times.is c.pair_index-pair.ensures)

pub bounds-p-pair : goal.bounds-p-pair
bounds-p-pair c = omega (arith, times_place c.requires.1 c.in-Times.is c.pair_index-pair.ensures)

pub offset_bounds-p-pair-in-Times : goal.offset_bounds-p-pair-in-Times
offset_bounds-p-pair-in-Times c = omega (arith, times_place c.requires.1 c.in-Times.is c.pair_index-pair.ensures)

pub bounds-p-pair-in-Times : goal.bounds-p-pair-in-Times
bounds-p-pair-in-Times c = omega (arith, times_place c.requires.1 c.in-Times.is c.pair_index-pair.ensures)

pub returns-in-Times : goal.returns-in-Times
returns-in-Times c = rw (c.in-Times.is, c.max-p.ensures, (times_place c.requires.1 c.in-Times.is c.pair_index-pair.ensures).0)

pub returns-in-Arrow : goal.returns-in-Arrow
unfolding predecessors_of
returns-in-Arrow c =
    rw (c.inserted.ensures, c.in-Arrow.is, lt-ltb c.in-Arrow.to most_tasks (arrow_to c.requires.1 c.in-Arrow.is))
