-- `text_form::read_line` meets its contract. Assumes nothing.
use mathlib.Core.Path.{◌≡◌, sym, ◌∙◌}
use native.Mathlib.Omega.{arith}
use lib.ListN.{get_or}
use Rattle.text_form.specs.Form.{tab}
use Rattle.text_form.proofs.Lines.{line_short, line_untabbed, line_by}
use Rattle.text_form.proofs.read_line.Goals as goal

pub returns-in_default : goal.returns-in_default
returns-in_default c = sym (line_short _ c.in_default.len_below)

pub returns-in_default-2 : goal.returns-in_default-2
returns-in_default-2 c = sym (line_untabbed _ c.in_default.len_at_least (λ e. omega (arith, e)))

pub returns-in_err-read_fields : goal.returns-in_err-read_fields
returns-in_err-read_fields c =
    let e : get_or c.args.s.now 1 0 ≡ tab = omega arith in
    c.from_residual.ensures ∙ sym (line_by _ c.in-9.len_at_least e (sym c.read_fields.ensures ∙ c.in_err-read_fields.was))

pub returns : goal.returns
returns c =
    let e : get_or c.args.s.now 1 0 ≡ tab = omega arith in
    c.form_of.ensures ∙ sym (line_by _ c.in-9.len_at_least e (sym c.read_fields.ensures ∙ c.in_ok-read_fields.was))
