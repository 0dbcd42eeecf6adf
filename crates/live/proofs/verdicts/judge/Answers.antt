-- `live::verdicts::judge` meets its contract. Assumes nothing.
use mathlib.Core.Path.{◌≡◌, sym, ◌∙◌}
use borrow.Author.Rules.{rules}
use native.Mathlib.Omega.{arith}
use Rattle.std.proofs.Common.{Err}
use Rattle.live.proofs.Judging.{unsound_first, passed_first, tasks_low, positions_fit, sound_by_lem}
use Rattle.live.proofs.TickAnswers.{judged_unsound, judged_refused, judged_taken}
use Rattle.live.proofs.verdicts.judge.Goals as goal

pub returns-then-broken-tasks : goal.returns-then-broken-tasks
returns-then-broken-tasks c =
    judged_unsound _ _ (unsound_first _ c.checked.ensures c.is_err-broken.ensures.value c.if-broken-tasks.true) c.refused.ensures

pub mark_positions-m-requires : goal.mark_positions-m-requires
mark_positions-m-requires c =
    positions_fit _ (passed_first c.args.s.now c.checked.ensures c.is_err-broken.ensures.value c.if-broken-tasks.false)

pub is_over-over-requires : goal.is_over-over-requires
is_over-over-requires c = tasks_low _ (passed_first c.args.s.now c.checked.ensures c.is_err-broken.ensures.value c.if-broken-tasks.false)

pub returns-then-not-is_sound : goal.returns-then-not-is_sound
returns-then-not-is_sound c =
    let p = passed_first c.args.s.now c.checked.ensures c.is_err-broken.ensures.value c.if-broken-tasks.false in
    judged_unsound _ _
    (sym (sound_by_lem c.args.s.now p c.mark_positions-m.ensures c.is_over-over.ensures)
    ∙ sym c.is_sound.ensures ∙ c.if-not-is_sound.true)
    c.refused-then-not-is_sound.ensures

pub returns-in_err-report_checked : goal.returns-in_err-report_checked
returns-in_err-report_checked c =
    let p = passed_first c.args.s.now c.checked.ensures c.is_err-broken.ensures.value c.if-broken-tasks.false in
    let e : c.from_residual.result ≡ Err c.in_err-report_checked.field-0.0 = search rules in
    e ∙ judged_refused _ _ (omega arith)
    (sym (sound_by_lem c.args.s.now p c.mark_positions-m.ensures c.is_over-over.ensures) ∙ sym c.is_sound.ensures ∙ c.if-not-is_sound.false)
    c.mark_positions-m.ensures c.is_over-over.ensures c.report_checked.ensures c.in_err-report_checked.was

pub returns : goal.returns
returns c =
    let p = passed_first c.args.s.now c.checked.ensures c.is_err-broken.ensures.value c.if-broken-tasks.false in
    judged_taken _ _ (omega arith)
    (sym (sound_by_lem c.args.s.now p c.mark_positions-m.ensures c.is_over-over.ensures) ∙ sym c.is_sound.ensures ∙ c.if-not-is_sound.false)
    c.mark_positions-m.ensures c.is_over-over.ensures c.report_checked.ensures c.in_ok-report_checked.was
