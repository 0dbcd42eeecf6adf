-- `live_walk::walk` meets its contract: what is left of the walk gives the whole. Assumes nothing.
use mathlib.Core.Path.{refl, ◌∙◌}
use Rattle.live_walk.proofs.Walking.{walk_ends, walk_stops, walk_goes}
use Rattle.live_walk.proofs.walk.Goals as goal

pub loop-n-init : goal.loop-n-init
loop-n-init c = record { at = refl; left = refl }

pub returns-then-not-may : goal.returns-then-not-may
returns-then-not-may c =
    walk_stops _ _ _ _ _ _ _ _ _ _ _ c.loop-n.invariant.at c.loop-n-test.true c.predecessors_of.ensures c.is_subset-ready.ensures
    c.release_of.ensures c.member_count.ensures c.if-not-may.true
    ∙ c.loop-n.invariant.left

pub loop-n-preserved : goal.loop-n-preserved
loop-n-preserved c = record {
  at = refl;
  left = walk_goes _ _ _ _ _ _ _ _ _ _ _ c.loop-n.invariant.at c.loop-n-test.true c.predecessors_of.ensures c.is_subset-ready.ensures
      c.release_of.ensures c.member_count.ensures c.if-not-may.false c.inserted.ensures
      ∙ c.loop-n.invariant.left;
}

pub returns : goal.returns
returns c = walk_ends _ _ _ _ _ _ _ _ _ _ _ c.loop-n-test.false ∙ c.loop-n.invariant.left
