-- `text_form::line_at` meets its contract. Assumes nothing.
use mathlib.Core.Path.{◌≡◌, sym, ◌∙◌}
use lib.ListN.{drop}
use Rattle.text_form.proofs.Parts.{got_from, got_none}
use Rattle.text_form.proofs.Lines.{line_past, line_unended, line_formless, line_formed}
use Rattle.text_form.proofs.line_at.Goals as goal

pub returns-in_err-rest : goal.returns-in_err-rest
returns-in_err-rest c =
    let s = c.args.text.now in
    let a = c.args.at in
    c.from_residual.ensures ∙ sym (line_past s a (got_none s a c.get.ensures.lookup c.in_err-rest.was))

pub returns-in_err-n : goal.returns-in_err-n
returns-in_err-n c =
    let s = c.args.text.now in
    let a = c.args.at in
    let rest : c.in_ok-rest.rest.now ≡ drop a s = got_from s a c.get.ensures.lookup c.in_ok-rest.was in
    c.from_residual-in_err-n.ensures ∙ sym (line_unended s a (rw (← rest) (sym c.newline_in.ensures ∙ c.in_err-n.was)))

pub returns-in_err-line : goal.returns-in_err-line
returns-in_err-line c =
    let s = c.args.text.now in
    let a = c.args.at in
    let rest : c.in_ok-rest.rest.now ≡ drop a s = got_from s a c.get.ensures.lookup c.in_ok-rest.was in
    c.from_residual-in_err-line.ensures
    ∙ sym (line_formless s a c.in_ok-n.n (rw (← rest) (sym c.newline_in.ensures ∙ c.in_ok-n.was))
    (rw (← rest) (sym c.read_line.ensures ∙ c.in_err-line.was)))

pub returns : goal.returns
returns c =
    let s = c.args.text.now in
    let a = c.args.at in
    let rest : c.in_ok-rest.rest.now ≡ drop a s = got_from s a c.get.ensures.lookup c.in_ok-rest.was in
    sym (line_formed s a c.in_ok-n.n c.in_ok-line.line (rw (← rest) (sym c.newline_in.ensures ∙ c.in_ok-n.was))
    (rw (← rest) (sym c.read_line.ensures ∙ c.in_ok-line.was)))
