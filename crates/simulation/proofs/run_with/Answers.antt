-- `simulation::run_with` meets its contract. Assumes nothing.
use mathlib.Core.Path.{◌≡◌, ◌∙◌, refl, ap}
use borrow.Author.Rules.{rules}
use Rattle.std.specs.Prelude.{Err}
use Rattle.simulation.specs.Simulated.{not_run}
use Rattle.plan.proofs.Refusing.{as_ok}
use Rattle.simulation.proofs.Answers.{placed, says-17, says-18, given-runnable, simulation-runs, simulation-refused}
use Rattle.simulation.proofs.run_with.Goals as goal

pub returns-in_err-checked : goal.returns-in_err-checked
returns-in_err-checked c =
    let e : c.from_residual.result ≡ Err c.in_err-checked.field-0.0 = search rules in
    rw e (simulation-refused _ _ c.in_err-checked.ensures _)

pub returns-then-times-p : goal.returns-then-times-p
returns-then-times-p c = ap not_run c.refused.ensures ∙ says-17 _ _ (as_ok _ c.in_ok-checked.ensures) _ c.if-times-p.true

pub first_outside-requires : goal.first_outside-requires
first_outside-requires c = (placed _ _ (as_ok _ c.in_ok-checked.ensures), c.if-times-p.false)

pub returns-in-Some : goal.returns-in-Some
returns-in-Some c = ap not_run c.refused-in-Some.ensures ∙ says-18 _ _ (as_ok _ c.in_ok-checked.ensures) _ c.if-times-p.false c.in-Some.ensures

pub run-requires : goal.run-requires
run-requires c = given-runnable _ _ (as_ok _ c.in_ok-checked.ensures) _ c.if-times-p.false c.in-None.ensures

pub returns-in-None : goal.returns-in-None
returns-in-None c =
    simulation-runs _ _ (as_ok _ c.in_ok-checked.ensures) _ c.if-times-p.false c.in-None.ensures (c.run.ensures _ (λ t l. refl))
