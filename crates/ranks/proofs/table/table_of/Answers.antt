-- `ranks::table::table_of` meets its contract: the ranks of the tasks passed are in the table. Assumes nothing.
use mathlib.Core.Path.{sym, ap, ◌∙◌, subst}
use Prim.Native.Nat.{◌<◌}
use Rattle.plan.specs.declared.Plan.{Plan}
use Rattle.ranks.specs.Steps.{Noted, RankFound}
use Rattle.ranks.proofs.Filling.{noted_none, known_next, known_all}
use Rattle.ranks.proofs.table.table_of.Goals as goal

pub invariant_of-known : goal.invariant_of-known
invariant_of-known c = record { ready = c.requires; noted = noted_none }

pub rank-requires : goal.rank-requires
rank-requires c = subst (λ (q : Plan). c.loop-t.t < q.tasks) (sym c.loop-t.invariant.0) c.loop-t-test.true

pub loop-t-preserved : goal.loop-t-preserved
loop-t-preserved c = (
  ap (λ b. b.now) c.rank.ensures.kept ∙ c.loop-t.invariant.0,
  known_next c.loop-t.invariant.1 c.loop-t-test.true
      (subst (λ (q : Plan). RankFound q.wcet q.predecessors q.tasks c.loop-t.t c.loop-t.known.table c.rank.new.self.table c.rank.result)
      c.loop-t.invariant.0 c.rank.ensures.found),
)

pub returns : goal.returns
returns c =
    known_all
    (subst (λ (q : Plan). ∥ Noted q.wcet q.predecessors q.tasks c.loop-t.known.table ∥₁) c.loop-t.invariant.0 c.loop-t.known.noted)
    c.loop-t.invariant.1 c.loop-t-test.false
