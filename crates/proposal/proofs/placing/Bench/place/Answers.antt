-- `proposal::placing::Bench::place` meets its contract. Assumes nothing.
use mathlib.Core.Path.{◌≡◌}
use native.Mathlib.Omega.{arith}
use Rattle.proposal_theory.specs.Proposals.{held_until}
use Rattle.proposal.proofs.Steps.{held_by, unit_kept, placed_by}
use Rattle.proposal.proofs.placing.Bench.place.Goals as goal

pub choose-unit-requires : goal.choose-unit-requires
choose-unit-requires c =
    let a = c.args in
    -- what holds the task
    let held : c.max-held.result ≡ held_until a.p.now.predecessors a.p.now.releases a.self.now.finishes a.t =
    held_by _ _ _ _ c.predecessors_of-needed.ensures c.latest_finish-waited.ensures c.release_of.ensures (omega (arith, c.max-held.ensures)) in
    (rw held c.requires.t_bound, c.requires.t_lt_most_tasks.1)

pub returns : goal.returns
returns c =
    let a = c.args in
    let held : c.max-held.result ≡ held_until a.p.now.predecessors a.p.now.releases a.self.now.finishes a.t =
    held_by _ _ _ _ c.predecessors_of-needed.ensures c.latest_finish-waited.ensures c.release_of.ensures (omega (arith, c.max-held.ensures)) in
    placed_by _ _ _ _ _ _ _ _ _ held c.choose-unit.ensures.0 c.choose-unit.ensures.1 (omega (arith, c.max.ensures))

-- the unit is one that is kept
pub offset_bounds-self-unit : goal.offset_bounds-self-unit
offset_bounds-self-unit c = omega (arith, unit_kept _ c.requires.t_lt_most_tasks.1 c.choose-unit.ensures.0)

pub bounds-self-unit : goal.bounds-self-unit
bounds-self-unit c = unit_kept _ c.requires.t_lt_most_tasks.1 c.choose-unit.ensures.0

pub offset_bounds-self-unit-2 : goal.offset_bounds-self-unit-2
offset_bounds-self-unit-2 c = omega (arith, unit_kept _ c.requires.t_lt_most_tasks.1 c.choose-unit.ensures.0)

pub bounds-self-unit-2 : goal.bounds-self-unit-2
bounds-self-unit-2 c = unit_kept _ c.requires.t_lt_most_tasks.1 c.choose-unit.ensures.0
