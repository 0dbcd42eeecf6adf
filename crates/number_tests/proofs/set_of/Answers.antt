-- `number_tests::set_of` meets its contract: the set of those before t that pass. Assumes nothing.
use mathlib.Core.Path.{refl, sym, ◌∙◌}
use Rattle.task_set.specs.Sets.{set_of}
use Rattle.task_set.proofs.Members.{set_of_next}
use Rattle.number_tests.proofs.set_of.Goals as goal
use Rattle.number_tests.proofs.set_of.Goals.{then-test, else-test}

pub loop-t-init : goal.loop-t-init
unfolding set_of
loop-t-init g c = λ p h. refl

pub loop-t-preserved : goal.loop-t-preserved
loop-t-preserved g c =
    λ p h.
    let passes = sym (h c.loop-t.t c.test.result c.loop-t-test.true c.test.ensures) in
    set_of_next c.loop-t.t p (c.loop-t.invariant p h) (elim c.if-test.branch [
      | then-test w ↦ rw (passes, w.if-test.true) (w.s-is ∙ w.inserted-s.ensures)
      | else-test w ↦ rw (passes, w.if-test.false) w.s-is
    ])
