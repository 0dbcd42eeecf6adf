-- `text_form::field_of` meets its contract. Assumes nothing.
use mathlib.Core.Path.{sym, ◌∙◌}
use Rattle.text_form.proofs.Decimal.{field_empty, field_ended}
use Rattle.text_form.proofs.field_of.Goals as goal

pub returns-then-n-eq0 : goal.returns-then-n-eq0
returns-then-n-eq0 c = sym (field_empty c.requires c.if-n-eq0.true)

pub returns-then-n-s : goal.returns-then-n-s
returns-then-n-s c = let k = c in sym (field_ended k.requires k.if-n-eq0.false ∙ rw c.if-n-s.true)

pub returns : goal.returns
returns c = let k = c in sym (field_ended k.requires k.if-n-eq0.false ∙ rw c.if-n-s.false)
