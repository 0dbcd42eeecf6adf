-- What the check knows of a plan whose rules hold. Assumes nothing.
use mathlib.Core.Path.{◌≡◌, sym, ◌∙◌}
use mathlib.Core.Bool.{Bool, true}
use Prim.Native.Nat.{◌≤◌}
use Rattle.plan.specs.Rules.{most_tasks, plan_ok}
use Rattle.plan.specs.declared.Plan.{Plan}
use Rattle.plan.proofs.Kept.{few_tasks}

-- what the call `plan_ok` found, at a place that it leads to
pub kept : (p : Plan) {r : Bool} → r ≡ plan_ok p → r ≡ true → plan_ok p ≡ true
kept p e h = sym e ∙ h

pub few : (p : Plan) {r : Bool} → r ≡ plan_ok p → r ≡ true → p.tasks ≤ most_tasks
few p e h = few_tasks _ (kept p e h)
