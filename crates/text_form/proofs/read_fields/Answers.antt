-- `text_form::read_fields` meets its contract: the fields passed and those of the rest are all. Assumes nothing.
use mathlib.Core.Path.{sym, ◌∙◌}
use native.Mathlib.Omega.{arith}
use Rattle.text_form.proofs.Lines.{taken_few, fields_none, fields_full, fields_last, fields_more}
use Rattle.text_form.proofs.read_fields.Goals as goal

pub returns-in_err-field : goal.returns-in_err-field
returns-in_err-field c =
    c.from_residual.ensures
    ∙ sym (fields_none c.loop-i.rest.now c.loop-i.i c.loop-i.values (sym c.read_field.ensures ∙ c.in_err-field.was))
    ∙ c.loop-i.invariant

pub returns-then-rest-field : goal.returns-then-rest-field
returns-then-rest-field c =
    sym (fields_last c.loop-i.rest.now c.loop-i.i c.loop-i.values c.loop-i-test.true c.in_ok-field.field
    (sym c.read_field.ensures ∙ c.in_ok-field.was) c.if-rest-field.true)
    ∙ c.loop-i.invariant

pub overflow_add-rest : goal.overflow_add-rest
overflow_add-rest c =
    omega (arith, taken_few c.loop-i.rest.now c.in_ok-field.field (sym c.read_field.ensures ∙ c.in_ok-field.was))

pub loop-i-preserved : goal.loop-i-preserved
loop-i-preserved c =
    fields_more c.loop-i.rest.now c.loop-i.i c.loop-i.values c.loop-i-test.true c.in_ok-field.field
    (sym c.read_field.ensures ∙ c.in_ok-field.was) (omega (arith, c.if-rest-field.false))
    ∙ c.loop-i.invariant

pub returns : goal.returns
returns c =
    sym (fields_full c.loop-i.rest.now c.loop-i.i c.loop-i.values (omega (arith, c.loop-i-test.false))) ∙ c.loop-i.invariant
