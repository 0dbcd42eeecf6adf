-- `ranks_arrows::successors` meets its contract. Assumes nothing.
use mathlib.Core.Path.{ap, ◌∙◌}
use Prim.Native.Nat.{ℕ}
use borrow.Author.Rules.{rules}
use Rattle.task_set.specs.Sets.{intersect, has}
use Rattle.task_set.proofs.Members.{one_meets}
use Rattle.ranks_arrows.specs.Arrows.{arrow}
use Rattle.ranks_arrows.proofs.Collecting.{collected_none, collected_more, collected_all}
use Rattle.ranks_arrows.proofs.successors.Goals as goal
use Rattle.ranks_arrows.proofs.successors.Goals.{then-intersects, else-intersects}

pub loop-u-preserved : goal.loop-u-preserved
unfolding arrow
loop-u-preserved c =
    let q = c.predecessors_of in
    let i = c.intersects in
    collected_more c.loop-u.invariant c.requires c.loop-u-test.true
    (i.ensures ∙ ap (λ (x : ℕ). intersect x q.result) c.inserted-from.ensures ∙ one_meets _ q.result (search rules)
    ∙ ap (λ (x : ℕ). has x c.args.t) q.ensures)
    (elim c.if-intersects.branch [
      | then-intersects w ↦ rw w.if-intersects.true w.s-is
      | else-intersects w ↦ rw w.if-intersects.false w.s-is
    ])

pub loop-u-init : goal.loop-u-init
loop-u-init c = collected_none

pub returns : goal.returns
returns c = collected_all c.loop-u.invariant c.requires c.loop-u-test.false
