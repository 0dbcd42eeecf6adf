-- `table_lines::texts::total_length` meets its contract: `sum` is the length of the texts before i. Assumes nothing.
use mathlib.Core.Path.{refl}
use native.Mathlib.Omega.{arith}
use Rattle.table_lines.specs.Texts.{joined}
use Rattle.table_lines.proofs.Text.{length_next}
use Rattle.table_lines.proofs.texts.total_length.Goals as goal

pub loop-i-init : goal.loop-i-init
unfolding joined
loop-i-init g c = (omega arith, λ text h. refl)

pub overflow_add-sum : goal.overflow_add-sum
overflow_add-sum g c =
    let l = c.requires.short c.loop-i.i c.length_of-sum.result c.loop-i-test.true c.length_of-sum.ensures in
    omega (arith, c.loop-i.invariant.0)

pub loop-i-preserved : goal.loop-i-preserved
loop-i-preserved g c =
    let i = c.loop-i.i in
    let k = c.length_of-sum.result in
    let t = c.loop-i-test.true in
    let e = c.length_of-sum.ensures in
    let l = c.requires.short i k t e in
    (omega (arith, c.loop-i.invariant.0), λ text h. length_next text i (c.loop-i.invariant.1 text h) (h i k t e))
