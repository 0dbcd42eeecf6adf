-- The verdict, as the check comes to it, and what it leaves where nothing is refused. Assumes nothing.
use mathlib.Core.Path.{◌≡◌, refl, sym, ap, ◌∙◌}
use mathlib.Core.Bool.{Bool, true, false, cond, not}
use Prim.Native.Nat.{ℕ, ◌<◌}
use native.Mathlib.Nat.{le_refl}
use native.Mathlib.Omega.{arith}
use borrow.Author.Tests.{eq-eqb, eqb-true, lt-ltb, le-ltb, ltb-false, not-false}
use lib.Dec.{eqb, ltb}
use Rattle.std.specs.Prelude.{Some, None}
use Rattle.task_set.specs.Bounded.{first, found}
use Rattle.task_set.proofs.Truth.{by_test}
use Rattle.task_set.proofs.Search.{first_absent, first_cong, first_none, found_some, found_not}
use Rattle.plan.specs.declared.Plan.{Plan}
use Rattle.plan.specs.declared.Constraint.{Constraint}
use Rattle.plan.specs.declared.Verdict.{Verdict}
use Rattle.plan.specs.Rules.{plan_ok}
use Rattle.plan.specs.Refusals.{misplaced, unusable, predecessor_later, refused, no_refusal, unless_at, verdict}
use Rattle.plan.specs.Steps.{unmet}
use Rattle.plan.proofs.Refusing.{unless_by, unless_passed, cond_passed}
use Rattle.plan.proofs.Arranged.{later_unmet}

module _ (p : Plan) (c : Constraint) where
  abbrev at_9 : ℕ → Bool
  at_9 = misplaced p.tasks c.order

  abbrev at_10 : ℕ → Bool
  at_10 = unusable p.types p.wcet c.order c.chosen

  abbrev at_11 : ℕ → ℕ → Bool
  at_11 = predecessor_later p.predecessors c.order

  -- 9 to 11, from the first position that each search finds; 11's looks for a predecessor that does not stand before
  pub order_by_lem : plan_ok p ≡ true → c.len ≡ p.tasks → {x y z : ℕ} → x ≡ first p.tasks at_9 → y ≡ first p.tasks at_10
      → z ≡ first p.tasks (unmet p.predecessors c.order)
      → cond (ltb x p.tasks) (refused 9 x)
      (cond (ltb y p.tasks) (refused 10 y) (cond (ltb z p.tasks) (refused 11 z) no_refusal))
      ≡ verdict p c
  unfolding verdict
  order_by_lem kept whole {x} {y} {z} ex ey ez =
      by_test (ltb x n) (λ q. rw q (rw q at nine)) (λ q. ap above (tens (searched q)) ∙ nine) ∙ rest
    where
      n : ℕ
      n = p.tasks

      past_10 : Verdict
      past_10 = unless_at 11 n (at_11 n) no_refusal

      past_9 : Verdict
      past_9 = unless_at 10 n at_10 past_10

      above : Verdict → Verdict
      above v = cond (ltb x n) (refused 9 x) v

      nine : above past_9 ≡ unless_at 9 n at_9 past_9
      nine = unless_by 9 n at_9 past_9 ex

      rest : unless_at 9 n at_9 past_9 ≡ verdict p c
      rest = rw (kept, whole, eq-eqb n n refl) refl

      searched : ltb x n ≡ false → (i : ℕ) → i < n → at_9 i ≡ false
      searched q = first_none n at_9 (omega (arith, ex, ltb-false x n q))

      tens : ((i : ℕ) → i < n → at_9 i ≡ false) → cond (ltb y n) (refused 10 y) (cond (ltb z n) (refused 11 z) no_refusal) ≡ past_9
      tens ok =
          ap (λ (v : Verdict). cond (ltb y n) (refused 10 y) v)
          (unless_by 11 n (at_11 n) no_refusal (ez ∙ first_cong n _ (at_11 n) (λ i l. later_unmet p kept c.order ok i l)))
          ∙ unless_by 10 n at_10 past_10 ey

  -- the same by what the searches tell, one after the other
  module _ (kept : plan_ok p ≡ true) (whole : c.len ≡ p.tasks) where
    pub refused_by_9 : {i : ℕ} → Some i ≡ found p.tasks at_9 → refused 9 i ≡ verdict p c
    refused_by_9 {i} e =
        let q = found_some p.tasks at_9 e in
        rw (lt-ltb i p.tasks q.1) at (order_by_lem kept whole q.0 refl refl)

    module _ (nine : None ≡ found p.tasks at_9) where
      pub refused_by_10 : {i : ℕ} → Some i ≡ found p.tasks at_10 → refused 10 i ≡ verdict p c
      refused_by_10 {i} e =
          let q = found_some p.tasks at_10 e in
          rw (le-ltb _ p.tasks (found_not p.tasks at_9 nine), lt-ltb i p.tasks q.1) at (order_by_lem kept whole refl q.0 refl)

      module _ (ten : None ≡ found p.tasks at_10) where
        pub refused_by_11 : {i : ℕ} → Some i ≡ found p.tasks (unmet p.predecessors c.order) → refused 11 i ≡ verdict p c
        refused_by_11 {i} e =
            let q = found_some p.tasks (unmet p.predecessors c.order) e in
            rw (
              le-ltb _ p.tasks (found_not p.tasks at_9 nine),
              le-ltb _ p.tasks (found_not p.tasks at_10 ten),
              lt-ltb i p.tasks q.1,
            ) at (order_by_lem kept whole refl refl q.0)

        pub refused_by_none : None ≡ found p.tasks (unmet p.predecessors c.order) → no_refusal ≡ verdict p c
        refused_by_none e =
            rw (
              le-ltb _ p.tasks (found_not p.tasks at_9 nine),
              le-ltb _ p.tasks (found_not p.tasks at_10 ten),
              le-ltb _ p.tasks (found_not p.tasks (unmet p.predecessors c.order) e),
            ) at (order_by_lem kept whole refl refl refl)

  -- ---- nothing is refused

  -- where no position is at fault
  pub accepts : plan_ok p ≡ true → c.len ≡ p.tasks → ((i : ℕ) → i < p.tasks → at_9 i ≡ false)
      → ((i : ℕ) → i < p.tasks → at_10 i ≡ false) → ((i : ℕ) → i < p.tasks → unmet p.predecessors c.order i ≡ false)
      → verdict p c ≡ no_refusal
  accepts kept whole nine ten eleven =
      sym (rw (le-ltb p.tasks p.tasks (le_refl p.tasks)) at
      (order_by_lem kept whole (first_absent p.tasks at_9 nine) (first_absent p.tasks at_10 ten)
      (first_absent p.tasks (unmet p.predecessors c.order) eleven)))

  pub record Passed : Type 0 where
    pub kept : plan_ok p ≡ true
    pub whole : c.len ≡ p.tasks
    pub placed : (i : ℕ) → i < p.tasks → at_9 i ≡ false
    pub usable : (i : ℕ) → i < p.tasks → at_10 i ≡ false
    pub ordered : (i : ℕ) → i < p.tasks → at_11 p.tasks i ≡ false

  pub passed : (verdict p c).number ≡ 0 → Passed
  unfolding verdict
  passed e =
      let r8 = cond_passed 8 0 (not (plan_ok p)) _ (omega arith) e in
      let r = cond_passed 9 c.len (not (eqb c.len p.tasks)) _ (omega arith) r8.1 in
      let whole : c.len ≡ p.tasks = eqb-true c.len p.tasks (not-false _ r.0) in
      let r9 = unless_passed 9 c.len at_9 _ (omega arith) r.1 in
      let r10 = unless_passed 10 c.len at_10 _ (omega arith) r9.1 in
      let r11 = unless_passed 11 c.len (at_11 c.len) _ (omega arith) r10.1 in
      record {
        kept = not-false _ r8.0;
        whole = whole;
        placed = λ i l. r9.0 i (omega arith);
        usable = λ i l. r10.0 i (omega arith);
        ordered = λ i l. rw whole at (r11.0 i (omega arith));
      }

  -- the number 0 comes with the place 0
  pub taken_is : (verdict p c).number ≡ 0 → no_refusal ≡ verdict p c
  taken_is e =
      let q = passed e in
      sym (accepts q.kept q.whole q.placed q.usable
      (λ i l. later_unmet p q.kept c.order q.placed i l ∙ q.ordered i l))
