-- `text_form::read_fields`: the fields passed and those of the rest are all. Assumes nothing.
use mathlib.Core.Path.{◌≡◌}
use Rattle.text_form.specs.Form.{tab, split}
use Rattle.text_form.specs.Steps.{fields_from, fields_of}
use Rattle.text_form.proofs.read_fields.Given as goal

abbrev pub invariant-loop-i : goal.invariant-loop-i
invariant-loop-i l = fields_from (split tab l.rest) l.i l.values ≡ fields_of (split tab l.s)
