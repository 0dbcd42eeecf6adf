-- A simulation that is not refused is a run of an accepted plan. Assumes nothing.
use mathlib.Core.Path.{◌≡◌, sym, ap, ◌∙◌}
use mathlib.Core.Bool.{cond}
use mathlib.Core.List.{List}
use Prim.Native.Nat.{ℕ, ◌≤◌}
use native.Mathlib.Omega.{arith}
use borrow.Author.Tests.{eqb-true, eq-eqb}
use lib.Dec.{eqb}
use Rattle.task_set.proofs.Truth.{by_test}
use Rattle.plan.specs.declared.Plan.{Plan}
use Rattle.plan.specs.declared.Constraint.{Constraint}
use Rattle.plan.specs.declared.Verdict.{Verdict}
use Rattle.plan.specs.Rules.{most_tasks}
use Rattle.plan.specs.Refusals.{first_refusal, verdict}
use Rattle.plan.proofs.Accepted.{Accepted, accepted}
use Rattle.runs.specs.Running.{worst}
use Rattle.simulation_run.specs.declared.Simulation.{Simulation}
use Rattle.simulation_times.specs.Times.{time_in}
use Rattle.simulation_run.specs.Ran.{ran}
use Rattle.simulation.specs.Simulated.{times_verdict, simulation_verdict, not_run, simulated, worst_case}

-- where the first refusal of two verdicts is none, neither refuses
pub first_taken : (v w : Verdict) → (first_refusal v w).number ≡ 0 → v.number ≡ 0
unfolding first_refusal
first_taken v w e = by_test (eqb v.number 0) (λ t. eqb-true _ _ t) (λ t. rw t at e)

second_taken : (v w : Verdict) → (first_refusal v w).number ≡ 0 → w.number ≡ 0
unfolding first_refusal
second_taken v w e = rw (eq-eqb v.number 0 (first_taken v w e)) at e

-- the run in which task t takes d t, unless v refuses
module _ (p : Plan) (c : Constraint) (d : ℕ → ℕ) (v : Verdict)
    (z : (cond (eqb v.number 0) (ran p c d) (not_run v)).number ≡ 0) where
  taken : v.number ≡ 0
  unfolding not_run
  taken = by_test (eqb v.number 0) (λ t. eqb-true _ _ t) (λ t. rw t at z)

  runs : cond (eqb v.number 0) (ran p c d) (not_run v) ≡ ran p c d
  runs = rw (eq-eqb v.number 0 taken)

module _ (p : Plan) (c : Constraint) (times : List ℕ) (z : (simulated p c times).number ≡ 0) where
  checks : (simulation_verdict p c times).number ≡ 0
  unfolding simulated
  checks = taken p c (time_in times) (simulation_verdict p c times) z

  pub simulated_taken : Accepted p c
  unfolding simulation_verdict
  simulated_taken = accepted p c (first_taken (verdict p c) (times_verdict p c times) checks)

  pub times_taken : (times_verdict p c times).number ≡ 0
  unfolding simulation_verdict
  times_taken = second_taken (verdict p c) (times_verdict p c times) checks

  pub simulated_runs : simulated p c times ≡ ran p c (time_in times)
  unfolding simulated
  simulated_runs = runs p c (time_in times) (simulation_verdict p c times) z

module _ (p : Plan) (c : Constraint) (z : (worst_case p c).number ≡ 0) where
  pub worst_taken : Accepted p c
  unfolding worst_case
  worst_taken = accepted p c (taken p c (worst p c) (verdict p c) z)

  pub worst_runs : worst_case p c ≡ ran p c (worst p c)
  unfolding worst_case
  worst_runs = runs p c (worst p c) (verdict p c) z

pub few : {p : Plan} {c : Constraint} {s t : Simulation}
    → (t.number ≡ 0 → Accepted p c) → s ≡ t → s.number ≡ 0 → c.len ≤ most_tasks
few f e z = let a = f (sym (ap (λ (r : Simulation). r.number) e) ∙ z) in omega (arith, a.whole, a.few_tasks)
