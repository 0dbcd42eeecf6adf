-- The answers of `simulate` and `bound`, branch by branch, and what the inner functions are handed. Assumes nothing.
use mathlib.Core.Path.{◌≡◌, refl, sym, ap, ◌∙◌, subst}
use mathlib.Core.Bool.{false}
use mathlib.Core.List.{List}
use Rattle.std.specs.Prelude.{None, Some, Err}
use Prim.Native.Nat.{ℕ, ◌+◌, ◌≤◌, zero-le}
use native.Mathlib.Nat.{le_refl, le_trans, le_of_eq}
use native.Mathlib.Omega.{arith}
use borrow.Author.Tests.{eq-eqb, ne_eqb, eqb-true, lt-ltb, le-ltb, not-false}
use lib.Dec.{eqb}
use lib.ListN.{length}
use Rattle.task_set.specs.Bounded.{first}
use Rattle.task_set.proofs.Truth.{by_test}
use Rattle.task_set.proofs.Search.{first_none}
use Rattle.plan.specs.declared.Plan.{Plan}
use Rattle.plan.specs.declared.Constraint.{Constraint}
use Rattle.plan.specs.declared.Verdict.{Verdict}
use Rattle.plan.specs.Rules.{time_of}
use Rattle.plan.specs.Refusals.{refused, as_result, first_refusal, unless_at, verdict}
use Rattle.plan.specs.Steps.{Positions}
use Rattle.plan.proofs.Refusing.{as_err}
use Rattle.plan.proofs.Accepted.{Accepted, accepted, positions}
use Rattle.dispatch_theory.specs.Sums.{sum}
use Rattle.runs.specs.Running.{type_of, worst, allowed, Allowed, greatest_release, bound}
use Rattle.runs.proofs.Positions.{task_at, type_entry, worst_entry, worst_short, allowed_most, allowed_lasts, worst_allowed}
use Rattle.runs.proofs.Theorems.{bound_sum}
use Rattle.simulation_run.specs.declared.Simulation.{Simulation}
use Rattle.simulation_times.specs.Times.{time_in, ChosenTimes, Lowest, LowestOf, outside_at}
use Rattle.simulation_run.specs.Ran.{ran}
use Rattle.simulation.specs.Simulated.{outside, times_verdict, simulation_verdict, not_run, simulated, worst_case}
use Rattle.simulation_run.specs.Steps.{Runnable, Listed}
use Rattle.simulation_times.proofs.Lowest.{lowest_all}

module _ (p : Plan) (c : Constraint) (e : (verdict p c).number ≡ 0) where
  abbrev a : Accepted p c
  a = accepted p c e

  pub placed : Positions c.order c.chosen p.tasks
  placed = rw a.whole at (positions p c a)

  -- allowed times that are listed
  runnable : (times : List ℕ) (d : ℕ → ℕ) → p.tasks ≤ length times → Listed p times d → Allowed p c d → Runnable p c times
  runnable times d l h w =
      record {
        checked = e;
        enough = l;
        some = λ t m. rw (h t m) (allowed_lasts a d w t m);
        short = λ t m. rw (h t m) (le_trans (allowed_most a d w t m) (worst_short a t m));
      }

  -- ---- the bound

  module _ {by_task : List ℕ} (f : ChosenTimes p.wcet c.order c.chosen c.len by_task) where
    h : ChosenTimes p.wcet c.order c.chosen p.tasks by_task
    h = rw a.whole at f

    pub worst-listed : Listed p by_task (worst p c)
    unfolding worst
    worst-listed t l =
        let r = a.somewhere t l in
        subst (λ (x : ℕ). time_in by_task x ≡ time_of p.wcet x (type_of c x)) r.2
        (h.at_position r.0 r.1 ∙ ap (time_of p.wcet (task_at c r.0)) (sym (type_entry a r.0 r.1)))

    pub worst-runnable : Runnable p c by_task
    worst-runnable = runnable by_task (worst p c) (omega (arith, h.whole, a.few_tasks)) worst-listed (worst_allowed a)

  pub bound-runs : {r : Simulation} → r ≡ ran p c (worst p c) → r ≡ worst_case p c
  unfolding worst_case
  bound-runs f = rw e f

  -- ---- the simulation

  module _ (times : List ℕ) where
    pub says-17 : (length times ≡ p.tasks → ⊥) → not_run (refused 17 (length times)) ≡ simulated p c times
    unfolding simulated simulation_verdict first_refusal times_verdict
    says-17 f = rw (e, ne_eqb (length times) p.tasks f) refl

    module _ (counted : length times ≡ p.tasks) where
      place_is : {place : ℕ} → LowestOf p.tasks c.order (outside_at p.wcet c.order c.chosen times) p.tasks place
          → place ≡ first p.tasks (outside p c times)
      unfolding outside outside_at allowed
      place_is o = lowest_all a (outside p c times) (λ i l. rw (worst_entry a i l) refl) o

      pub says-18 : {place : ℕ} → Lowest p.tasks c.order (outside_at p.wcet c.order c.chosen times) (Some place)
          → not_run (refused 18 place) ≡ simulated p c times
      unfolding simulated simulation_verdict first_refusal times_verdict unless_at
      says-18 {place} o = rw (e, eq-eqb (length times) p.tasks counted, ← place_is o.1, lt-ltb place p.tasks o.0) refl

      module _ (o : Lowest p.tasks c.order (outside_at p.wcet c.order c.chosen times) None) where
        pub given-runnable : Runnable p c times
        unfolding outside
        given-runnable =
            runnable times (time_in times) (le_of_eq (sym counted)) (λ t m. refl)
            (λ t m. not-false _ (first_none p.tasks (outside p c times) (le_of_eq (place_is o)) t m))

        pub simulation-runs : {r : Simulation} → r ≡ ran p c (time_in times) → r ≡ simulated p c times
        unfolding simulated simulation_verdict first_refusal times_verdict unless_at
        simulation-runs f = rw (e, eq-eqb (length times) p.tasks counted, ← place_is o, le-ltb p.tasks p.tasks (le_refl _)) f

-- ---- what the check refuses

module _ (p : Plan) (c : Constraint) {v : Verdict} (h : Err v ≡ as_result (verdict p c)) where
  is : v ≡ verdict p c
  is = (as_err _ h).0

  refuses : eqb (verdict p c).number 0 ≡ false
  refuses = (as_err _ h).1

  pub bound-refused : not_run v ≡ worst_case p c
  unfolding worst_case
  bound-refused = ap not_run is ∙ rw refuses refl

  pub simulation-refused : (times : List ℕ) → not_run v ≡ simulated p c times
  unfolding simulated simulation_verdict first_refusal
  simulation-refused times = ap not_run is ∙ rw refuses (rw refuses refl)

-- ---- the bound is at most the greatest not-before instant plus the sum of the worst times

pub with-sum : (p : Plan) (c : Constraint) {r : Simulation} → r ≡ worst_case p c
    → (r ≡ worst_case p c) × (r.response ≤ greatest_release p + sum p.tasks (worst p c))
unfolding worst_case ran not_run bound
with-sum p c e = (
  e,
  rw e (by_test (eqb (verdict p c).number 0) (λ f. rw f (bound_sum p c (eqb-true (verdict p c).number 0 f)))
      (λ f. rw f zero-le)),
)
