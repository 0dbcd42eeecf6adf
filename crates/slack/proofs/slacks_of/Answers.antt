-- `slack::slacks_of` meets its contract. Assumes nothing.
use mathlib.Core.Path.{sym, ap, subst, ◌∙◌}
use Rattle.slack.specs.declared.Slacks.{Slacks}
use Rattle.slack.specs.Margins.{slacks_in, slacks_of, InRange}
use Rattle.slack.proofs.Range.{in_range}
use Rattle.slack.proofs.slacks_of.Goals as goal

pub returns : goal.returns
unfolding slacks_of
returns c =
    let e = c.slacks_in.ensures ∙ ap (slacks_in _) c.bound-s.ensures.0 in
    (e, subst (λ (s : Slacks). InRange s.slacks) (sym e) (in_range _ _).each)
