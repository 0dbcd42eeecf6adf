-- "so ranks are whole" (document 02, 8): the quotient in a task's own rank leaves nothing. Assumes nothing.
use mathlib.Core.Path.{◌≡◌, refl, ap, ◌∙◌}
use mathlib.Core.Bool.{true, cond}
use mathlib.Core.List.{List}
use Prim.Native.Nat.{ℕ, zero, suc, ◌*◌, ◌%◌, ◌≤◌, ◌<◌}
use native.Mathlib.Nat.{dvd_of_mod-eq-zero, dvd-mul_right_of_dvd, mul-div_cancel', not-suc-le-zero}
use native.Mathlib.Omega.{arith}
use borrow.Author.Tests.{eqb-true, ltb-false}
use lib.Dec.{eqb, ltb}
use Rattle.task_set.specs.Bounded.{all}
use Rattle.task_set.proofs.Truth.{by_test}
use Rattle.task_set.proofs.Bounded.{all_elim, count_le}
use Rattle.plan.specs.declared.Plan.{Plan}
use Rattle.plan.specs.Rules.{most_types, time_of, usable, plan_ok}
use Rattle.dispatch_theory.specs.Sums.{sum}
use Rattle.dispatch_theory.proofs.Sums.{sum_cong}
use Rattle.ranks.specs.Ranks.{parts, types_of, own_rank}
use Rattle.ranks.proofs.Callers.{some_types}

-- 840 divided by any number of types that a task can use leaves nothing
pub parts_whole : (n : ℕ) → 0 < n → n ≤ most_types → parts % n ≡ 0
unfolding all
parts_whole zero l m = absurd (not-suc-le-zero l)
parts_whole (suc n) l m =
    eqb-true (parts % suc n) 0 (all_elim most_types (λ k. eqb (parts % suc k) 0) refl n m)

-- the sum of the worst times of a task over the types that it can use
abbrev pub usable_sum : List ℕ → ℕ → ℕ
usable_sum wcet t = sum most_types (λ k. cond (usable wcet t k) (time_of wcet t k) 0)

-- on the other types its time is 0
sum_usable : (wcet : List ℕ) (t : ℕ) → sum most_types (time_of wcet t) ≡ usable_sum wcet t
unfolding usable
sum_usable wcet t =
    sum_cong most_types (time_of wcet t) (λ k. cond (usable wcet t k) (time_of wcet t k) 0)
    (λ k l. by_test (ltb 0 (time_of wcet t k)) (λ e. rw e refl) (λ e. rw e (omega (arith, ltb-false 0 (time_of wcet t k) e))))

-- in a plan that breaks no rule each task's own rank, times the number of its types, is 840 times the sum: nothing is rounded
pub own_whole : (p : Plan) → plan_ok p ≡ true → (t : ℕ) → t < p.tasks
    → types_of p.wcet t * own_rank p.wcet t ≡ parts * usable_sum p.wcet t
unfolding own_rank types_of
own_whole p ok t l =
    mul-div_cancel' (types_of p.wcet t)
    (dvd-mul_right_of_dvd (types_of p.wcet t)
    (dvd_of_mod-eq-zero (types_of p.wcet t)
    (parts_whole (types_of p.wcet t) (some_types p ok t l) (count_le most_types (usable p.wcet t))))
    (sum most_types (time_of p.wcet t)))
    ∙ ap (λ (x : ℕ). parts * x) (sum_usable p.wcet t)
