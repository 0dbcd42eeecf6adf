-- `adoption::adopt_schedule` meets its contract. Assumes nothing.
use mathlib.Core.Path.{◌≡◌, ap, ap₂, ◌∙◌}
use native.Mathlib.Omega.{arith}
use Rattle.plan.specs.declared.Constraint.{Constraint}
use Rattle.plan.specs.declared.Verdict.{Verdict}
use Rattle.adoption_theory.specs.declared.Adoption.{Adoption}
use Rattle.adoption.specs.Steps.{answer}
use Rattle.adoption.proofs.Answers.{answer_refused, answer_taken, once_each, promise_passes, promise_in_time}
use Rattle.adoption.proofs.adopt_schedule.Goals as goal

-- what is answered with a constraint equal by value
answer_by : {v : Verdict} {k m : Constraint} {r : Adoption} → r ≡ answer v k → k ≡ m → r ≡ answer v m
answer_by {v} e f = e ∙ ap (answer v) f

pub in_order-requires : goal.in_order-requires
in_order-requires c = once_each _ _ c.in-Ok.ensures

pub returns-in-Ok : goal.returns-in-Ok
returns-in-Ok c =
    let e = c.answer.ensures ∙ ap₂ answer c.none.ensures c.in_order.ensures ∙ answer_taken _ _ c.in-Ok.ensures in
    record { value = e; passes = promise_passes _ _ e; in_time = promise_in_time _ _ e }

pub returns-in-Err : goal.returns-in-Err
returns-in-Err c =
    let e = answer_by c.answer-in-Err.ensures (grind arith) ∙ answer_refused _ _ c.in-Err.ensures in
    record { value = e; passes = promise_passes _ _ e; in_time = promise_in_time _ _ e }
