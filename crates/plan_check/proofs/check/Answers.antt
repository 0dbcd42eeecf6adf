-- `plan_check::check` meets its contract. Assumes nothing.
use mathlib.Core.Path.{sym, ◌∙◌}
use Rattle.plan.proofs.Refusing.{as_ok, as_err}
use Rattle.plan.proofs.Verdicts.{taken_is}
use Rattle.plan_check.proofs.check.Goals as goal

pub returns : goal.returns
returns c = c.none.ensures ∙ taken_is _ _ (as_ok _ (sym c.in_default.is ∙ c.checked.ensures))

pub returns-in-Err : goal.returns-in-Err
returns-in-Err c = (as_err _ (sym c.in-Err.is ∙ c.checked.ensures)).0
