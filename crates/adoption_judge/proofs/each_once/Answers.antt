-- `adoption_judge::each_once` meets its contract: the check's verdict on the list as an order. Assumes nothing.
use mathlib.Core.Path.{◌≡◌, refl, sym, ap, ◌∙◌}
use Rattle.std.specs.Prelude.{Result, ⊤}
use Rattle.plan.specs.declared.Plan.{Plan}
use Rattle.plan.specs.declared.Constraint.{Constraint}
use Rattle.plan.specs.declared.Verdict.{Verdict}
use Rattle.plan.specs.Refusals.{verdict, as_result}
use Rattle.plan.proofs.Refusing.{err_is_result, ok_is_result}
use Rattle.adoption_judge.proofs.Checking.{says_8, says_20, says_other, says_none}
use Rattle.adoption_judge.proofs.each_once.Goals as goal

-- what the call of the check answers, of the constraint that it was lent
by : (p : Plan) {r s : Result ⊤ Verdict} {c d : Constraint} → r ≡ s → r ≡ as_result (verdict p c) → c ≡ d → s ≡ as_result (verdict p d)
by p e f g = sym e ∙ f ∙ ap (λ (c : Constraint). as_result (verdict p c)) g

pub returns-in-Err : goal.returns-in-Err
returns-in-Err c =
    err_is_result refl c.refused.ensures
    (says_8 _ _ (by _ c.in-Err.is c.checked.ensures c.as_order.ensures) c.if-v-eq8.true)

pub returns-in-Err-2 : goal.returns-in-Err-2
returns-in-Err-2 c =
    err_is_result refl c.refused-in-Err-2.ensures
    (says_20 _ _ (by _ c.in-Err.is c.checked.ensures c.as_order.ensures) c.if-v-eq-MISPLACED.true)

pub returns-in_default : goal.returns-in_default
returns-in_default c =
    ok_is_result (says_other _ _ (by _ c.in-Err.is c.checked.ensures c.as_order.ensures) c.if-v-eq8.false c.if-v-eq-MISPLACED.false)

pub returns-in_default-2 : goal.returns-in_default-2
returns-in_default-2 c = ok_is_result (says_none _ _ (by _ c.in_default.is c.checked.ensures c.as_order.ensures))
