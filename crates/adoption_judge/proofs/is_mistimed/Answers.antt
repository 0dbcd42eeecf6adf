-- `adoption_judge::is_mistimed` meets its contract, however the sum and the tests are written. Assumes nothing.
use native.Mathlib.Omega.{arith}
use Rattle.std.proofs.lemmas.Bool.Decides.{nat_tests}
use Rattle.plan.specs.Rules.{usable}
use Rattle.plan.specs.Refusals.{unusable}
use Rattle.adoption_theory.specs.Schedules.{mistimed}
use Rattle.adoption_judge.proofs.is_mistimed.Goals as goal

pub returns : goal.returns
unfolding mistimed unusable usable
returns c = grind (arith, nat_tests, c.from.ensures, c.from-2.ensures, c.from-3.ensures, c.time_of-worst.ensures)
