-- `live_walk::walk` meets its contract: what is left of the walk gives the whole. Assumes nothing.
use mathlib.Core.Path.{◌≡◌}
use Prim.Native.Nat.{◌-◌}
use Rattle.live_walk.specs.Steps.{walk_from}
use Rattle.live_walk.proofs.walk.Given as goal

abbrev pub invariant-loop-n : goal.invariant-loop-n
invariant-loop-n l = record {
  at : l.w.begun ≡ l.n;
  left : walk_from l.p.units l.p.predecessors l.p.releases l.c.order l.c.chosen l.users l.instant l.finished (l.c.len - l.n) l.w
      ≡ walk_from l.p.units l.p.predecessors l.p.releases l.c.order l.c.chosen l.users l.instant l.finished
      (l.c.len - l.fn.w.begun) l.fn.w;
}
