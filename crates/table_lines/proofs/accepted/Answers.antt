-- `table_lines::accepted` meets its contract. Assumes nothing.
use mathlib.Core.Path.{refl}
use borrow.Author.Tests.{ne_eqb}
use Rattle.plan.specs.Refusals.{as_result}
use Rattle.plan.proofs.Refusing.{err_is_result}
use Rattle.table_lines.proofs.accepted.Goals as goal

pub returns-then-number-ne0 : goal.returns-then-number-ne0
returns-then-number-ne0 c = err_is_result (ne_eqb c.args.number 0 c.if-number-ne0.true) c.refused.ensures refl

pub returns : goal.returns
unfolding as_result
returns c = rw c.if-number-ne0.false refl
