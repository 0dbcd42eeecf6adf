-- `ranks_arrows::all_joined` meets its contract. Assumes nothing.
use mathlib.Core.Path.{sym, ap, ◌∙◌}
use mathlib.Core.Bool.{true, false}
use Prim.Native.Nat.{ℕ}
use borrow.Author.Rules.{rules}
use Rattle.task_set.specs.Sets.{subset}
use Rattle.task_set.proofs.Upto.{upto_more, upto_end}
use Rattle.ranks_arrows.specs.Steps.{joined}
use Rattle.ranks_arrows.proofs.Joining.{joined_next}
use Rattle.ranks_arrows.proofs.all_joined.Goals as goal
use Rattle.ranks_arrows.proofs.all_joined.Goals.{then-is_subset, else-is_subset}

pub loop-t-init : goal.loop-t-init
unfolding joined
loop-t-init c = search rules

pub loop-t-preserved : goal.loop-t-preserved
loop-t-preserved c =
    let e = sym (ap (λ (x : ℕ). subset x c.loop-t.out) c.predecessors_of.ensures) ∙ sym c.is_subset.ensures in
    upto_more c.loop-t-test.true
    (elim c.if-is_subset.branch [
      | then-is_subset w ↦ w.out-is ∙ w.inserted-out.ensures ∙ joined_next _ _ _ true c.loop-t.invariant.is (e ∙ w.if-is_subset.true)
      | else-is_subset w ↦ w.out-is ∙ joined_next _ _ _ false c.loop-t.invariant.is (e ∙ w.if-is_subset.false)
    ])

pub returns : goal.returns
returns c = upto_end c.loop-t.invariant c.loop-t-test.false
