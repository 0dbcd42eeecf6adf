-- What inner functions compute. No promise of a public function cites it. Assumes nothing.
use Rattle.std.specs.Prelude.{cond, not, eqb}
use Rattle.plan.specs.declared.Plan.{Plan}
use Rattle.plan.specs.declared.Verdict.{Verdict}
use Rattle.plan.specs.Rules.{plan_ok}
use Rattle.plan.specs.Refusals.{misplaced, refused, no_refusal, unless_at}
use Rattle.adoption_theory.specs.declared.Schedule.{Schedule}

-- 8 and 20 alone, in front of what is tried next
unfoldable pub each_once_or : Plan → Schedule → Verdict → Verdict
each_once_or p s rest =
    cond (not (plan_ok p)) (refused 8 0)
    (cond (not (eqb s.len p.tasks)) (refused 20 s.len) (unless_at 20 s.len (misplaced p.tasks s.tasks) rest))

abbrev pub each_once : Plan → Schedule → Verdict
each_once p s = each_once_or p s no_refusal
