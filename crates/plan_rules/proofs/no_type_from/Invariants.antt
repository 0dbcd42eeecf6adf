-- `plan_rules::no_type_from` meets its contract: `none` tells of the types passed. Assumes nothing.
use mathlib.Core.Bool.{◌||◌, not}
use Prim.Native.Nat.{ℕ, ◌≤◌}
use lib.Dec.{ltb}
use Rattle.plan.specs.Rules.{most_types, usable}
use Rattle.task_set.specs.Bounded.{all}
use Rattle.task_set.proofs.Upto.{Upto}
use Rattle.plan_rules.proofs.no_type_from.Given as goal

abbrev pub invariant-loop-k : goal.invariant-loop-k
invariant-loop-k l = Upto (λ (m : ℕ). all m (λ k. ltb k l.n || not (usable l.wcet l.t k))) most_types l.k l.none × (l.n ≤ l.k)
