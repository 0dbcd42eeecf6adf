-- What a slack tells of every run: a task whose slack is not below zero meets its deadline. Assumes nothing.
use mathlib.Core.Path.{◌≡◌}
use mathlib.Core.Bool.{true}
use Prim.Native.Nat.{ℕ, ◌≤◌}
use native.Mathlib.Omega.{arith}
use borrow.Author.Tests.{ltb-true, ltb-false}
use lib.Dec.{ltb}
use lib.IntN.{pos, ◌-ℤ◌}
use lib.ListN.{get_or}
use lib.Signed.{◌≤ℤ◌}
use Rattle.task_set.proofs.Truth.{by_test}
use Rattle.plan.specs.declared.Plan.{Plan}
use Rattle.plan.specs.declared.Constraint.{Constraint}
use Rattle.plan.specs.Rules.{deadline_of}
use Rattle.plan.proofs.Accepted.{Accepted}
use Rattle.runs.specs.Running.{worst, Allowed, or_zero, ended}
use Rattle.runs.proofs.Positions.{allowed_lasts, allowed_most}
use Rattle.runs.proofs.Compare.{finish_no_later}
use Rattle.runs.proofs.Response.{ended_finish}
use Rattle.simulation.specs.Simulated.{ran}
use Rattle.slack.specs.Margins.{is_due, slack_of}
use Rattle.slack.proofs.Differences.{below}
use Rattle.slack.proofs.Range.{worst_finish}

-- a difference that is not below zero
not_less : (a b : ℕ) → pos 0 ≤ℤ (pos a -ℤ pos b) → b ≤ a
not_less a b h = by_test (ltb a b) (λ e. absurd (rw (below a b (ltb-true a b e)) at h).le) (λ e. ltb-false a b e)

module _ {p : Plan} {c : Constraint} (a : Accepted p c) where
  -- however the times fall
  pub meets : (d : ℕ → ℕ) → Allowed p c d → (t : ℕ) → is_due p.deadlines t ≡ true
      → pos 0 ≤ℤ slack_of p.deadlines (ran p c (worst p c)).finishes t
      → or_zero ((ended p c d).finish t) ≤ deadline_of p.deadlines t
  unfolding slack_of
  meets d w t e h =
      let l = (a.due t (ltb-true 0 (deadline_of p.deadlines t) e)).0 in
      rw (ended_finish a d (allowed_lasts a d w) t l)
      (omega (
        arith,
        not_less (deadline_of p.deadlines t) (get_or (ran p c (worst p c)).finishes t 0) (rw e at h),
        worst_finish a t l,
        finish_no_later a d (worst p c) (allowed_lasts a d w) (allowed_most a d w) t l,
      ))
