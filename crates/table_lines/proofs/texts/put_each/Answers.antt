-- `table_lines::texts::put_each` meets its contract: the texts before i stand in the buffer. Assumes nothing.
use mathlib.Core.Path.{refl}
use Rattle.table_lines.specs.Texts.{joined}
use Rattle.table_lines.proofs.Text.{room_next, put_next, put_all}
use Rattle.table_lines.proofs.texts.put_each.Goals as goal

pub loop-i-init : goal.loop-i-init
unfolding joined
loop-i-init g c = λ text h. record { bytes = refl; end = refl }

pub put-at-requires : goal.put-at-requires
put-at-requires g c =
    let r = c.requires in
    r.2 _ c.loop-i.at c.loop-i.i c.loop-i-test.true (room_next r.0 _ _ r.1 c.loop-i-test.true (c.loop-i.invariant r.0 r.3))

pub loop-i-preserved : goal.loop-i-preserved
loop-i-preserved g c =
    λ text h.
    put_next text _ (c.loop-i.invariant text h) (h _ _ c.loop-i.at c.loop-i.i c.put-at.result c.loop-i-test.true c.put-at.ensures)

pub returns : goal.returns
returns g c = λ text h. put_all text c.loop-i.auto.i-end c.loop-i-test.false (c.loop-i.invariant text h)
