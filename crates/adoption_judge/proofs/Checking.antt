-- 8 and 20 from what the check says of the list as an order. Assumes nothing.
use mathlib.Core.Path.{◌≡◌, refl, sym, ap, ◌∙◌}
use mathlib.Core.Bool.{Bool, true, false, cond, not, false≢true}
use Prim.Native.Nat.{ℕ, ◌<◌}
use native.Mathlib.Nat.{lt_of_lt_of_le}
use native.Mathlib.Omega.{arith}
use borrow.Author.Tests.{eq-eqb, eqb-true}
use lib.Dec.{eqb, ltb}
use Rattle.std.specs.Prelude.{Some, None, Ok, Err, ⊤}
use Rattle.task_set.specs.Bounded.{first, found}
use Rattle.task_set.proofs.Search.{first_none, found_some, found_not}
use Rattle.plan.specs.declared.Plan.{Plan}
use Rattle.plan.specs.declared.Constraint.{Constraint}
use Rattle.plan.specs.declared.Verdict.{Verdict}
use Rattle.plan.specs.Rules.{most_types, plan_ok}
use Rattle.plan.specs.Refusals.{misplaced, unusable, predecessor_later, refused, no_refusal, constraint_of, unless_at, verdict, as_result}
use Rattle.plan.proofs.Refusing.{unless_found, unless_none, unless_other, as_ok, as_err}
use Rattle.plan.proofs.Kept.{few_types}
use Rattle.adoption_theory.specs.declared.Schedule.{Schedule}
use Rattle.adoption_theory.specs.Schedules.{type_at, mistimed, unmeetable, judged}
use Rattle.adoption_theory.proofs.Taken.{type_of_lem}
use Rattle.adoption_judge.specs.Steps.{each_once, each_once_or}

-- v is the check's verdict and j that on the list by 8 and 20 alone
pub record Twin (v j : Verdict) : Type 0 where
  pub eight : v.number ≡ 8 → j ≡ refused 8 0
  pub nine : v.number ≡ 9 → j ≡ refused 20 v.place
  pub passed : (v.number ≡ 8 → ⊥) → (v.number ≡ 9 → ⊥) → j ≡ no_refusal

-- the two go by the same three tests: the plan, the count, the tasks
twin : (a b f : Bool) (len at : ℕ) (w : Verdict) → (w.number ≡ 8 → ⊥) → (w.number ≡ 9 → ⊥)
    → Twin (cond (not a) (refused 8 0) (cond (not b) (refused 9 len) (cond f (refused 9 at) w)))
    (cond (not a) (refused 8 0) (cond (not b) (refused 20 len) (cond f (refused 20 at) no_refusal)))
twin false b f len at w n8 n9 =
    record { eight = λ e. refl; nine = λ e. absurd (omega arith); passed = λ g h. absurd (g refl) }
twin true false f len at w n8 n9 =
    record { eight = λ e. absurd (omega arith); nine = λ e. refl; passed = λ g h. absurd (h refl) }
twin true true true len at w n8 n9 =
    record { eight = λ e. absurd (omega arith); nine = λ e. refl; passed = λ g h. absurd (h refl) }
twin true true false len at w n8 n9 =
    record { eight = λ e. absurd (n8 e); nine = λ e. absurd (n9 e); passed = λ g h. refl }

-- j is the verdict by 8 and 20 alone, and k that by all, of which r is tried after 20, where the tests a and b are passed
pub record Begun (j k r : Verdict) (a b : Bool) : Type 0 where
  pub ended : (j.number ≡ 0 → ⊥) → j ≡ k
  pub passed : j.number ≡ 0 → (a ≡ true) × (b ≡ true) × (r ≡ k)

begun : (a b f : Bool) (len at : ℕ) (r : Verdict)
    → Begun (cond (not a) (refused 8 0) (cond (not b) (refused 20 len) (cond f (refused 20 at) no_refusal)))
    (cond (not a) (refused 8 0) (cond (not b) (refused 20 len) (cond f (refused 20 at) r))) r a b
begun false b f len at r = record { ended = λ g. refl; passed = λ e. absurd (omega arith) }
begun true false f len at r = record { ended = λ g. refl; passed = λ e. absurd (omega arith) }
begun true true true len at r = record { ended = λ g. refl; passed = λ e. absurd (omega arith) }
begun true true false len at r = record { ended = λ g. absurd (g refl); passed = λ e. (refl, refl, refl) }

module _ (p : Plan) (s : Schedule) where
  -- the list as an order, as its records come
  abbrev pub as_listed : Constraint
  as_listed = constraint_of s.len s.tasks s.types

  -- what is tried after 21, and after 20
  abbrev past_21 : Verdict
  past_21 = unless_at 22 s.len (unmeetable p.units p.predecessors p.releases s) no_refusal

  abbrev past_20 : Verdict
  past_20 = unless_at 21 s.len (mistimed p.types p.wcet s) past_21

  -- what the check tries after 10, and after 9
  abbrev past_10 : Verdict
  past_10 = unless_at 11 s.len (predecessor_later p.predecessors s.tasks s.len) no_refusal

  abbrev past_9 : Verdict
  past_9 = unless_at 10 s.len (unusable p.types p.wcet s.tasks s.types) past_10

  other : (x : ℕ) → (10 ≡ x → ⊥) → (11 ≡ x → ⊥) → (0 ≡ x → ⊥) → past_9.number ≡ x → ⊥
  other x f g h = unless_other 10 s.len _ past_10 x f (unless_other 11 s.len _ no_refusal x g h)

  checked : Twin (verdict p as_listed) (each_once p s)
  unfolding verdict each_once_or unless_at
  checked =
      twin (plan_ok p) (eqb s.len p.tasks) (ltb (first s.len (misplaced p.tasks s.tasks)) s.len) s.len
      (first s.len (misplaced p.tasks s.tasks)) past_9
      (other 8 (λ e. omega arith) (λ e. omega arith) (λ e. omega arith))
      (other 9 (λ e. omega arith) (λ e. omega arith) (λ e. omega arith))

  -- ---- as the code comes to it

  module _ {v : Verdict} (e : Err v ≡ as_result (verdict p as_listed)) where
    is : v ≡ verdict p as_listed
    is = (as_err (verdict p as_listed) e).0

    pub says_8 : v.number ≡ 8 → refused 8 0 ≡ each_once p s
    says_8 f = sym (checked.eight (rw is at f))

    pub says_20 : v.number ≡ 9 → refused 20 v.place ≡ each_once p s
    says_20 f = rw is (sym (checked.nine (rw is at f)))

    pub says_other : (v.number ≡ 8 → ⊥) → (v.number ≡ 9 → ⊥) → no_refusal ≡ each_once p s
    says_other f g = sym (checked.passed (rw is at f) (rw is at g))

  pub says_none : {u : ⊤} → Ok u ≡ as_result (verdict p as_listed) → no_refusal ≡ each_once p s
  says_none e =
      let z : (verdict p as_listed).number ≡ 0 = as_ok (verdict p as_listed) e in
      sym (checked.passed (λ f. omega arith) (λ f. omega arith))

  tried : Begun (each_once p s) (judged p s) past_20 (plan_ok p) (eqb s.len p.tasks)
  unfolding judged each_once_or unless_at
  tried =
      begun (plan_ok p) (eqb s.len p.tasks) (ltb (first s.len (misplaced p.tasks s.tasks)) s.len) s.len
      (first s.len (misplaced p.tasks s.tasks)) past_20

  pub ended : {w : Verdict} → Err w ≡ as_result (each_once p s) → Err w ≡ as_result (judged p s)
  ended e =
      let r = as_err (each_once p s) e in
      e ∙ ap as_result (tried.ended (λ z. false≢true (sym r.1 ∙ eq-eqb (each_once p s).number 0 z)))

  -- neither 8 nor 20
  pub record Ordered : Type 0 where
    pub kept : plan_ok p ≡ true
    pub whole : s.len ≡ p.tasks
    pub rest : past_20 ≡ judged p s

  pub ordered : {u : ⊤} → Ok u ≡ as_result (each_once p s) → Ordered
  ordered e = let r = tried.passed (as_ok (each_once p s) e) in record { kept = r.0; whole = eqb-true s.len p.tasks r.1; rest = r.2 }

  module _ (o : Ordered) where
    pub says_21 : {i : ℕ} → Some i ≡ found s.len (mistimed p.types p.wcet s) → refused 21 i ≡ judged p s
    says_21 e =
        let q = found_some s.len (mistimed p.types p.wcet s) e in
        unless_found 21 s.len (mistimed p.types p.wcet s) past_21 q.0 q.1 ∙ o.rest

    module _ (e21 : None ≡ found s.len (mistimed p.types p.wcet s)) where
      past : past_21 ≡ judged p s
      past =
          unless_none 21 s.len (mistimed p.types p.wcet s) past_21 refl (found_not s.len (mistimed p.types p.wcet s) e21) ∙ o.rest

      -- every type of the list is one of the plan, and so one that is kept
      pub types_known : (i : ℕ) → i < s.len → type_at s i < most_types
      types_known i l =
          lt_of_lt_of_le
          (type_of_lem p s i
          (first_none s.len (mistimed p.types p.wcet s) (found_not s.len (mistimed p.types p.wcet s) e21) i l))
          (few_types p o.kept)

      pub says_22 : {i : ℕ} → Some i ≡ found s.len (unmeetable p.units p.predecessors p.releases s) → refused 22 i ≡ judged p s
      says_22 e =
          let q = found_some s.len (unmeetable p.units p.predecessors p.releases s) e in
          unless_found 22 s.len (unmeetable p.units p.predecessors p.releases s) no_refusal q.0 q.1 ∙ past

      pub takes : None ≡ found s.len (unmeetable p.units p.predecessors p.releases s) → no_refusal ≡ judged p s
      takes e =
          unless_none 22 s.len (unmeetable p.units p.predecessors p.releases s) no_refusal refl
          (found_not s.len (unmeetable p.units p.predecessors p.releases s) e)
          ∙ past
