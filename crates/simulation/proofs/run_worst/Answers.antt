-- `simulation::run_worst` meets its contract. Assumes nothing.
use mathlib.Core.Path.{◌≡◌}
use borrow.Author.Rules.{rules}
use Rattle.std.specs.Prelude.{Err}
use Rattle.plan.proofs.Accepted.{accepted, positions}
use Rattle.plan.proofs.Refusing.{as_ok}
use Rattle.simulation.proofs.Answers.{worst-listed, worst-runnable, bound-runs, bound-refused}
use Rattle.simulation.proofs.run_worst.Goals as goal

pub returns-in_err-checked : goal.returns-in_err-checked
returns-in_err-checked c =
    let e : c.from_residual.result ≡ Err c.in_err-checked.field-0.0 = search rules in
    rw e (bound-refused _ _ c.in_err-checked.ensures)

pub chosen_times-worst-requires : goal.chosen_times-worst-requires
chosen_times-worst-requires c = positions _ _ (accepted _ _ (as_ok _ c.in_ok-checked.ensures))

pub run-requires : goal.run-requires
run-requires c = worst-runnable _ _ (as_ok _ c.in_ok-checked.ensures) c.chosen_times-worst.ensures

pub returns : goal.returns
returns c =
    let e = as_ok _ c.in_ok-checked.ensures in
    bound-runs _ _ e (c.run.ensures _ (worst-listed _ _ e c.chosen_times-worst.ensures))
