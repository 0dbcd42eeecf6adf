-- The answer from a run, branch by branch. Assumes nothing.
use mathlib.Core.Path.{◌≡◌, refl, ap}
use mathlib.Core.Bool.{true}
use mathlib.Core.List.{List}
use Prim.Native.Nat.{ℕ}
use Rattle.std.proofs.Common.{Option, None, Some}
use borrow.Author.Tests.{eq-eqb, ne_eqb}
use lib.IntN.{ℤ}
use Rattle.task_set.specs.Bounded.{any, tabulate}
use Rattle.task_set.proofs.Truth.{by_test}
use Rattle.plan.specs.declared.Plan.{Plan}
use Rattle.plan.specs.Rules.{most_tasks}
use Rattle.simulation_run.specs.declared.Simulation.{Simulation}
use Rattle.slack.specs.Margins.{is_due, slack_of, tightest_task, no_slacks, some_slacks, slacks_in}
use Rattle.slack.proofs.Least.{apart, same}

module _ (p : Plan) (s : Simulation) where
  pub in-refused : (s.number ≡ 0 → ⊥) → no_slacks s.number s.place ≡ slacks_in p s
  unfolding slacks_in
  in-refused f = rw (ne_eqb s.number 0 f) refl

  module _ (z : s.number ≡ 0) {slacks : List ℤ} (e : slacks ≡ tabulate most_tasks (slack_of p.deadlines s.finishes))
      {best : Option (ℕ × ℤ)} (f : best ≡ tightest_task p.deadlines slacks) where
    pub in-none : best ≡ None → no_slacks 0 0 ≡ slacks_in p s
    unfolding slacks_in tightest_task
    in-none g = by_test (any most_tasks (is_due p.deadlines)) (λ q. absurd (apart g (rw q at f))) (λ q. rw (eq-eqb s.number 0 z, q) refl)

    pub in_some : {task : ℕ} {least x : ℤ} → best ≡ Some (task, least) → x ≡ least
        → record { number = 0; place = 0; any = true; least = x; task = task; slacks = slacks } ≡ slacks_in p s
    unfolding slacks_in tightest_task some_slacks
    in_some g k =
        by_test (any most_tasks (is_due p.deadlines))
        (λ q. let h = same g (rw q at f) in
        rw (eq-eqb s.number 0 z, q, k, ap (λ (b : ℕ × ℤ). b.0) h, ap (λ (b : ℕ × ℤ). b.1) h, e) refl)
        (λ q. absurd (apart (rw q at f) g))
