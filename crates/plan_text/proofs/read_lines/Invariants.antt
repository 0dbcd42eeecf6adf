-- `plan_text::read_lines`: the answer is that of the lines left, after what was read so far. Assumes nothing.
use mathlib.Core.Path.{◌≡◌}
use Prim.Native.Nat.{◌+◌, ◌-◌, ◌≤◌}
use lib.ListN.{length, drop}
use Rattle.text_form.specs.Form.{newline, split}
use Rattle.plan_text.specs.Reading.{Reading}
use Rattle.plan_text.specs.Text.{read_text}
use Rattle.plan_text.specs.Text as text
use Rattle.plan_text.proofs.Room.{Counted}
use Rattle.plan_text.proofs.read_lines.Given as goal

abbrev pub invariant-loop-at : goal.invariant-loop-at
invariant-loop-at l =
    let r : Reading = record { plan = l.p; constraint = l.c; seen = l.seen } in
    (l.at ≤ length l.text)
    × (l.place ≤ l.at + 1)
    × (read_text l.text ≡ text.read_lines (split newline (drop l.at l.text)) l.place r)
    × Counted r
    × (l.p.types ≤ l.place)

abbrev pub decreases-loop-at : goal.decreases-loop-at
decreases-loop-at l = length l.text - l.at
