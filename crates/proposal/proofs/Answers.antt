-- The answer, branch by branch, and what it promises. Assumes nothing.
use mathlib.Core.Path.{◌≡◌, refl, sym, ap, ◌∙◌, subst}
use mathlib.Core.List.{List}
use Prim.Native.Nat.{ℕ, ◌≤◌, ◌<◌, zero-le}
use native.Mathlib.Nat.{lt_of_lt_of_le}
use native.Mathlib.Omega.{arith}
use borrow.Author.Tests.{eq-eqb, ne_eqb, eqb-true, lt-ltb}
use lib.Dec.{eqb}
use lib.ListN.{get_or}
use Rattle.task_set.proofs.Truth.{by_test}
use Rattle.task_set.proofs.Bounded.{count_cong}
use Rattle.task_set.proofs.Search.{first_cong}
use Rattle.task_set.proofs.Tables.{get_d_tabulate}
use Rattle.plan.specs.declared.Plan.{Plan}
use Rattle.plan.specs.declared.Constraint.{Constraint}
use Rattle.plan.specs.Rules.{most_tasks}
use Rattle.plan.specs.Refusals.{no_constraint, verdict}
use Rattle.plan.proofs.Kept.{few_tasks}
use Rattle.runs.specs.Running.{bound}
use Rattle.ranks.specs.declared.Unranked.{Unranked}
use Rattle.ranks.specs.declared.Unranked.TheVariants.{Faulty, Circular}
use Rattle.ranks.specs.Ranks.{number_of, ranks_of, Ranking, ranked}
use Rattle.ranks.proofs.Callers.{Ranked, not_refused}
use Rattle.adoption_theory.specs.Schedules.{greatest_finish, constraint_by}
use Rattle.proposal_theory.specs.declared.Proposal.{Proposal}
use Rattle.proposal_theory.specs.Proposals.{place_of, task_at, Bench, bench_after, bench_of_plan, by_task, schedule_by, proposal_of, proposed}
use Rattle.proposal_theory.proofs.Promises.{passes, in_time}
use Rattle.proposal_order.specs.Steps.{place_by, task_by, order_by, Apart, rank_keys}
use Rattle.proposal_order.proofs.Keys.{order_low, rank_keys_apart, rank_key_before}
use Rattle.proposal.specs.Steps.{Orderly}
use Rattle.proposal.proofs.Steps.{bench_cong}

-- no refusal has the number 0
pub number-some : (reason : Unranked) → number_of reason ≡ 0 → ⊥
number-some Faulty e = omega arith
number-some Circular e = omega arith

module _ (p : Plan) where
  pub says-no : {r : Ranking} → r ≡ ranked p → (r.number ≡ 0 → ⊥) → proposal_of r.number 0 no_constraint ≡ proposed p
  unfolding proposed
  says-no e f = rw (ap (λ (x : Ranking). x.number) (sym e), ne_eqb _ 0 f) refl

  -- ---- a plan with ranks

  module _ {ranks keys : List ℕ} (h : Ranked p ranks) (e : keys ≡ rank_keys ranks) where
    pub keys_apart : Apart keys p.tasks
    keys_apart = rw e (rank_keys_apart ranks p.tasks (few_tasks p h.kept))

    -- what the loop over the tasks relies on
    pub orderly : {order : List ℕ} → order ≡ order_by keys p.tasks → Orderly p order
    orderly f = record { kept = h.kept; low = λ n l. rw f (order_low keys_apart n l) }

    -- by falling key is by falling rank
    task-by : (k : ℕ) → task_by (rank_keys ranks) p.tasks k ≡ task_at ranks p.tasks k
    unfolding task_by place_by task_at place_of
    task-by k =
        first_cong p.tasks _ _ (λ t l. ap (λ (n : ℕ). eqb n k) (count_cong p.tasks _ _ (λ u m.
        rank_key_before ranks t u (wide l) (wide m))))
      where
        wide : {t : ℕ} → t < p.tasks → t < most_tasks
        wide l = lt_of_lt_of_le l (few_tasks p h.kept)

    entry-is : {order : List ℕ} → order ≡ order_by keys p.tasks → (n : ℕ) → n < p.tasks → get_or order n 0 ≡ task_at (ranks_of p) p.tasks n
    unfolding order_by
    entry-is f n l =
        rw (f, e, get_d_tabulate {A = ℕ} most_tasks _ n 0 (lt_of_lt_of_le l (few_tasks p h.kept)), lt-ltb n p.tasks l)
        (task-by n ∙ ap (λ (x : List ℕ). task_at x p.tasks n) h.is)

    pub says-yes : {order : List ℕ} {r : Ranking} {c : Constraint} → r ≡ ranked p → r.number ≡ 0 → order ≡ order_by keys p.tasks
        → c ≡ constraint_by (by_task p.tasks (bench_after p.units p.wcet p.predecessors p.releases (λ n. get_or order n 0) p.tasks))
        → proposal_of 0 0 c ≡ proposed p
    unfolding proposed schedule_by bench_of_plan
    says-yes q z f g =
        rw (ap (λ (x : Ranking). x.number) (sym q), eq-eqb _ 0 z)
        (ap (proposal_of 0 0) (g ∙ ap (λ (b : Bench). constraint_by (by_task p.tasks b))
        (bench_cong p.units p.wcet p.predecessors p.releases _ _ p.tasks (entry-is f))))

  -- ---- the two promises

  module _ {a : Proposal} (e : a ≡ proposed p) (z : a.number ≡ 0) where
    zero-ranked : (ranked p).number ≡ 0
    unfolding proposed
    zero-ranked =
        by_test (eqb (ranked p).number 0) (eqb-true _ 0)
        (λ f. rw f at (sym (ap (λ (x : Proposal). x.number) e) ∙ z))

    constraint-is : constraint_by (schedule_by p) ≡ a.constraint
    unfolding proposed
    constraint-is = sym (rw (eq-eqb (ranked p).number 0 zero-ranked) at (ap (λ (x : Proposal). x.constraint) e))

    given : Ranked p (ranked p).ranks
    given = not_refused p refl zero-ranked

    pub promise-passes : (verdict p a.constraint).number ≡ 0
    promise-passes =
        subst (λ (c : Constraint). (verdict p c).number ≡ 0) constraint-is (passes p given.kept given.straight)

    pub promise-in-time : bound p a.constraint ≤ greatest_finish (schedule_by p)
    promise-in-time =
        subst (λ (c : Constraint). bound p c ≤ greatest_finish (schedule_by p)) constraint-is (in_time p given.kept given.straight)

  -- no proposal is longer than the most tasks
  pub proposal-short : (proposed p).constraint.len ≤ most_tasks
  unfolding proposed constraint_by schedule_by
  proposal-short =
      by_test (eqb (ranked p).number 0)
      (λ e. rw e (few_tasks p (not_refused p refl (eqb-true (ranked p).number 0 e)).kept)) (λ e. rw e zero-le)
