-- `live::State::advance` meets its contract. Assumes nothing.
use mathlib.Core.Path.{◌≡◌, sym, ap, ◌∙◌}
use native.Mathlib.Omega.{arith}
use borrow.Author.Rules.{rules}
use Rattle.std.proofs.Common.{Err}
use Rattle.live_marks.specs.declared.Marks.{Marks}
use Rattle.live.specs.Steps.{answered}
use Rattle.live.proofs.ReportedStates.{Shaped, sound_instant, sound_tidy, reported_walkable}
use Rattle.live.proofs.TickAnswers.{accepted_sound, accepted_idle, accepted_moved, tick_stays, tick_taken}
use Rattle.live.proofs.State.advance.Goals as goal

pub returns-in_err-m : goal.returns-in_err-m
returns-in_err-m c =
    let e : c.from_residual.result ≡ Err c.in_err-m.field-0.0 = search rules in
    ap (λ r. answered r c.args.self.now) e ∙ tick_stays _ _ (sym c.in_err-m.was ∙ c.judge.ensures)

pub overflow_add-self : goal.overflow_add-self
overflow_add-self c =
    let t = tick_taken c.args.self.now c.args.report (sym c.in_ok-m.was ∙ c.judge.ensures) in
    omega (arith, sound_instant _ (accepted_sound c.args.self.now c.args.report t.ok))

pub walk_on-requires : goal.walk_on-requires
walk_on-requires c =
    let s = c.args.self.now in
    let t = tick_taken c.args.self.now c.args.report (sym c.in_ok-m.was ∙ c.judge.ensures) in
    let h : Shaped s = record { finished_small = omega arith; starts_long = search rules; finishes_long = search rules } in
    reported_walkable _ (sound_tidy _ h (accepted_sound s c.args.report t.ok)) _ (omega arith)
    (accepted_idle _ _ t.ok) (ap (λ (m : Marks). m.started) t.marks) (ap (λ (m : Marks). m.users) t.marks)
    c.difference-running.ensures c.stamp.ensures

pub returns : goal.returns
returns c =
    let s = c.args.self.now in
    let t = tick_taken c.args.self.now c.args.report (sym c.in_ok-m.was ∙ c.judge.ensures) in
    let h : Shaped s = record { finished_small = omega arith; starts_long = search rules; finishes_long = search rules } in
    c.walk_on.ensures ∙ accepted_moved _ _ t.ok h (omega arith) c.stamp.ensures
