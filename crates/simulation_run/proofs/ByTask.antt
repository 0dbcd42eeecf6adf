-- Arrays by task number that a loop over the positions of the order fills. Assumes nothing.
use mathlib.Core.Path.{◌≡◌, refl, sym, ap, ◌∙◌}
use mathlib.Core.Bool.{Bool, cond}
use mathlib.Core.List.{List}
use Prim.Native.Nat.{ℕ, suc, ◌≤◌, ◌<◌, zero-le}
use native.Mathlib.Nat.{le_of_eq, lt-suc_self, lt_of_lt_of_le}
use native.Mathlib.Omega.{arith}
use borrow.Author.Tests.{ltb-true, ltb-false, lt-ltb, le-ltb, eqb-true}
use lib.Dec.{eqb, ltb}
use lib.ListN.{get_or, set, replicate}
use Rattle.task_set.specs.Bounded.{tabulate}
use Rattle.task_set.proofs.Truth.{by_test}
use Rattle.task_set.proofs.Bounded.{other_below}
use Rattle.task_set.proofs.Search.{first_is}
use Rattle.task_set.proofs.Tables.{tabulate_cong, replicate_tabulate, set_tabulate, get_d_tabulate}
use Rattle.plan.specs.declared.Plan.{Plan}
use Rattle.plan.specs.declared.Constraint.{Constraint}
use Rattle.plan.specs.Rules.{most_tasks}
use Rattle.plan.proofs.Accepted.{Accepted}
use Rattle.runs.proofs.Positions.{task_at, position, position_entry, position_low, position_absent}

-- ---- a table with the value of f for each task before position k, and 0 for the others

abbrev pub tabled : Constraint → ℕ → (ℕ → ℕ) → List ℕ
tabled c k f = tabulate most_tasks (λ t. cond (ltb (position c t) k) (f t) 0)

pub tabled_none : (c : Constraint) (f : ℕ → ℕ) → replicate most_tasks 0 ≡ tabled c 0 f
tabled_none c f =
    replicate_tabulate most_tasks 0
    ∙ tabulate_cong most_tasks _ _ (λ t l. sym (ap (λ (b : Bool). cond b (f t) 0) (le-ltb (position c t) 0 zero-le)))

module _ {p : Plan} {c : Constraint} (a : Accepted p c) (f : ℕ → ℕ) where
  pub tabled_at : (k j : ℕ) → j < k → k ≤ p.tasks → get_or (tabled c k f) (task_at c j) 0 ≡ f (task_at c j)
  tabled_at k j l m =
      let n : j < p.tasks = lt_of_lt_of_le l m in
      get_d_tabulate most_tasks _ (task_at c j) 0 (lt_of_lt_of_le (a.task j n) a.few_tasks)
      ∙ rw (position_entry a j n, lt-ltb j k l) refl

  pub tabled_more : (k : ℕ) → k < p.tasks → set (tabled c k f) (task_at c k) (f (task_at c k)) ≡ tabled c (suc k) f
  tabled_more k l =
      ap (set (tabled c k f) (task_at c k)) (sym here)
      ∙ set_tabulate most_tasks (λ t. cond (ltb (position c t) k) (f t) 0) (λ t. cond (ltb (position c t) (suc k)) (f t) 0)
      (task_at c k)
      (λ t q. ap (λ (b : Bool). cond b (f t) 0) (other_below (position c t) k (λ e. q (stands t e))))
    where
      here : cond (ltb (position c (task_at c k)) (suc k)) (f (task_at c k)) 0 ≡ f (task_at c k)
      here = rw (position_entry a k l, lt-ltb k (suc k) (lt-suc_self k)) refl

      -- a task at position k is the one that stands there
      stands : (t : ℕ) → position c t ≡ k → t ≡ task_at c k
      stands t e =
          let r : position c t < c.len = omega (arith, a.whole) in
          sym (eqb-true _ t ((first_is c.len (λ i. eqb (task_at c i) t)).passes r)) ∙ ap (task_at c) e

  -- at the end each task of the plan has its value
  pub tabled_all : tabled c p.tasks f ≡ tabulate most_tasks (λ t. cond (ltb t p.tasks) (f t) 0)
  tabled_all = tabulate_cong most_tasks _ _ (λ t l. ap (λ (b : Bool). cond b (f t) 0) (within t))
    where
      within : (t : ℕ) → ltb (position c t) p.tasks ≡ ltb t p.tasks
      within t =
          by_test (ltb t p.tasks) (λ e. rw e (lt-ltb _ _ (position_low a t (ltb-true t p.tasks e))))
          (λ e. rw e (le-ltb _ _ (le_of_eq (sym (position_absent a t (ltb-false t p.tasks e))))))
