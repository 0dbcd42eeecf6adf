-- `text_form::read_field`: the bytes passed are digits, and no tab. Assumes nothing.
use mathlib.Core.Path.{◌≡◌}
use Prim.Native.Nat.{◌+◌}
use lib.ListN.{drop}
use Rattle.text_form.specs.Form.{tab}
use Rattle.text_form.specs.Steps.{part_length, Digits}
use Rattle.text_form.proofs.read_field.Given as goal

abbrev pub invariant-loop-n : goal.invariant-loop-n
invariant-loop-n l = Digits l.s l.n l.value × (l.n + part_length tab (drop l.n l.s) ≡ part_length tab l.s)
