-- What a plan that breaks no rule gives, and the answer, branch by branch. Assumes nothing.
use mathlib.Core.Path.{◌≡◌, refl, sym, ap, ◌∙◌}
use mathlib.Core.Bool.{true, false}
use mathlib.Core.List.{List}
use Prim.Native.Nat.{ℕ, ◌*◌, ◌≤◌, ◌<◌, zero-le}
use native.Mathlib.Nat.{le_trans, le_of_eq, lt_of_le_of_lt, mul-le-mul_right}
use native.Mathlib.Omega.{arith}
use borrow.Author.Tests.{ltb-true, ltb-false}
use lib.Dec.{ltb}
use lib.ListN.{get_or, get_or-eq_default}
use Rattle.task_set.specs.Bounded.{tabulate}
use Rattle.task_set.proofs.Truth.{by_test}
use Rattle.task_set.proofs.Bounded.{any_elim, count_less}
use Rattle.task_set.proofs.Tables.{length_tabulate, get_d_tabulate}
use Rattle.plan.specs.declared.Plan.{Plan}
use Rattle.plan.specs.Rules.{most_types, most_tasks, usable, plan_ok}
use Rattle.plan.proofs.Kept.{few_tasks, known_predecessor, short_time, some_type}
use Rattle.ranks_arrows.specs.Arrows.{arrow, circle}
use Rattle.ranks_arrows.specs.Steps.{Known}
use Rattle.ranks.specs.Ranks.{types_of, own_rank, rank_of, ranks_of, Ranking, ranking_of, no_ranks, ranked}
use Rattle.ranks.specs.Steps.{Ready}
use Rattle.ranks.proofs.Equation.{most_own, own_most, rank_most}

module _ (p : Plan) where
  pub says_8 : plan_ok p ≡ false → no_ranks 8 ≡ ranked p
  unfolding ranked
  says_8 e = rw e refl

  module _ (ok : plan_ok p ≡ true) where
    pub plan_known : Known p.predecessors p.tasks
    plan_known = record { few = few_tasks p ok; named = λ t u l m e. known_predecessor p ok t l u m e }

    -- each task can use some type
    pub some_types : (t : ℕ) → t < p.tasks → 0 < types_of p.wcet t
    unfolding types_of
    some_types t l =
        let r = any_elim most_types (usable p.wcet t) (some_type p ok t l) in
        lt_of_le_of_lt zero-le (count_less most_types (usable p.wcet t) r.0 r.1 r.2)

    pub says_23 : circle (arrow p.predecessors) p.tasks ≡ true → no_ranks 23 ≡ ranked p
    unfolding ranked
    says_23 e = rw (ok, e) refl

    module _ (straight : circle (arrow p.predecessors) p.tasks ≡ false) where
      pub plan_ready : Ready p.wcet p.predecessors p.tasks
      plan_ready =
          record {
            known = plan_known;
            usable = some_types;
            short = λ t k l. short_time p ok t l k;
            straight = straight;
          }

      pub says_0 : {ranks : List ℕ} → ranks ≡ ranks_of p → ranking_of 0 ranks ≡ ranked p
      unfolding ranked
      says_0 e = rw (ok, straight, e) refl

  -- ---- a plan that is not refused

  -- what a ranking of it tells
  pub record Ranked (ranks : List ℕ) : Type 0 where
    pub kept : plan_ok p ≡ true
    pub straight : circle (arrow p.predecessors) p.tasks ≡ false
    pub is : ranks ≡ ranks_of p

  pub not_refused : {r : Ranking} → r ≡ ranked p → r.number ≡ 0 → Ranked r.ranks
  unfolding ranked
  not_refused {r} e n =
      by_test (plan_ok p)
      (λ ok. by_test (circle (arrow p.predecessors) p.tasks)
      (λ f. absurd (refuted 23 (omega arith) (sym (says_23 ok f))))
      (λ f. record { kept = ok; straight = f; is = ap (λ (x : Ranking). x.ranks) (e ∙ sym (says_0 ok f refl)) }))
      (λ f. absurd (refuted 8 (omega arith) (sym (says_8 f))))
    where
      refuted : (k : ℕ) → 0 < k → ranked p ≡ no_ranks k → ⊥
      refuted k l f = omega (arith, ap (λ (x : Ranking). x.number) (e ∙ f), n)

  -- no rank is greater than this
  pub ranks_low : {ranks : List ℕ} → Ranked ranks → (t : ℕ) → get_or ranks t 0 ≤ most_tasks * most_own
  unfolding ranks_of
  ranks_low h t =
      rw h.is
      (by_test (ltb t most_tasks)
      (λ e. rw (get_d_tabulate {A = ℕ} most_tasks _ t 0 (ltb-true t most_tasks e)) (by_test (ltb t p.tasks) (λ f. rw f (low (ltb-true t p.tasks f))) (λ f. rw f zero-le)))
      (λ e. rw (get_or-eq_default (tabulate most_tasks _) 0 (le_trans (le_of_eq (length_tabulate {A = ℕ} most_tasks _)) (ltb-false t most_tasks e))) zero-le))
    where
      low : t < p.tasks → rank_of p.wcet p.predecessors p.tasks t ≤ most_tasks * most_own
      low l =
          le_trans
          (rank_most (own_rank p.wcet) (arrow p.predecessors) p.tasks most_own
          (λ u m. own_most p.wcet u (short_time p h.kept u m)) t l)
          (mul-le-mul_right most_own (few_tasks p h.kept))
