-- `table_slacks::write_slacks` meets its contract. Assumes nothing.
use mathlib.Core.Path.{ap, subst, ◌∙◌}
use lib.ListN.{length}
use Rattle.std.proofs.lemmas.Result.{err_from_is_err_and}
use Rattle.slack.specs.declared.Slacks.{Slacks}
use Rattle.table_slack_lines.specs.SlackText.{slacks_text}
use Rattle.table_lines.specs.Steps.{Put}
use Rattle.table_lines.proofs.Outcomes.{stops, lacks, has_room, put}
use Rattle.table_slacks.proofs.write_slacks.Goals as goal

pub returns-in_err-accepted : goal.returns-in_err-accepted
returns-in_err-accepted c =
    let r = err_from_is_err_and c.from_residual.result c.from_residual.ensures.1 in
    rw (r.1, r.2) (stops _ _ _ c.accepted.ensures c.in_err-accepted.was)

pub returns-in_err-fits : goal.returns-in_err-fits
returns-in_err-fits c =
    let r = err_from_is_err_and c.from_residual-in_err-fits.result c.from_residual-in_err-fits.ensures.1 in
    let n = c.slacks_length.ensures
    ∙ ap (λ (r : Slacks). length (slacks_text c.args.p.now c.args.s.now r)) c.slacks_in-r.ensures in
    rw (r.1, r.2) (lacks _ _ _ c.accepted.ensures c.in_ok-accepted.was n c.fits.ensures c.in_err-fits.was)

pub returns : goal.returns
returns c =
    let n = c.slacks_length.ensures
    ∙ ap (λ (r : Slacks). length (slacks_text c.args.p.now c.args.s.now r)) c.slacks_in-r.ensures in
    put _ _ _ c.accepted.ensures c.in_ok-accepted.was n c.fits.ensures c.in_ok-fits.was
    (subst (λ (r : Slacks). Put c.args.buffer.now 0 (slacks_text c.args.p.now c.args.s.now r) c.put_slacks.new.buffer c.put_slacks.result)
    c.slacks_in-r.ensures c.put_slacks.ensures)

pub put_slacks-requires : goal.put_slacks-requires
put_slacks-requires c = has_room _ _ _ c.accepted.ensures c.in_ok-accepted.was c.slacks_length.ensures c.fits.ensures c.in_ok-fits.was
