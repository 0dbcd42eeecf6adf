-- `number_tests::all_below` meets its contract: `ok` tells of the numbers before i. Assumes nothing.
use mathlib.Core.Path.{refl, sym, ap₂, ◌∙◌}
use mathlib.Core.Bool.{◌&&◌}
use Rattle.task_set.specs.Bounded.{all}
use Rattle.task_set.proofs.Bounded.{all_next}
use Rattle.number_tests.proofs.all_below.Goals as goal

pub loop-i-init : goal.loop-i-init
unfolding all
loop-i-init g c = λ p h. refl

pub loop-i-preserved : goal.loop-i-preserved
loop-i-preserved g c =
    λ p h.
    ap₂ ◌&&◌ (c.loop-i.invariant p h) (h c.loop-i.i c.test-ok.result c.loop-i-test.true c.test-ok.ensures) ∙ sym (all_next _ _)
