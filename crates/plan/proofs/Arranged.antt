-- An order that passes 9 is one of all tasks; in it, a predecessor that does not stand before a task stands after it.
-- Assumes nothing.
use mathlib.Core.Path.{◌≡◌, sym, ap, ◌∙◌}
use mathlib.Core.Bool.{Bool, true, false, ◌&&◌, not}
use mathlib.Core.List.{List}
use Prim.Native.Nat.{ℕ, ◌<◌}
use native.Mathlib.Nat.{lt_trans, lt_of_lt_of_le}
use native.Mathlib.Omega.{arith}
use borrow.Author.Tests.{eqb-true, eq-eqb, leb-false, ltb-true, ltb-false, lt-ltb, not-true}
use lib.Dec.{eqb, leb, ltb}
use Rattle.task_set.specs.Bounded.{any}
use Rattle.task_set.specs.Sets.{width, has}
use Rattle.task_set.proofs.Truth.{clash, by_test, same, off, and_left, and_right, and_both, or_left_off, or_right_off}
use Rattle.task_set.proofs.Bounded.{any_intro, any_elim, any_off}
use Rattle.task_set.proofs.Cover.{cover}
use Rattle.plan.specs.declared.Plan.{Plan}
use Rattle.plan.specs.Rules.{predecessors_of, plan_ok}
use Rattle.plan.specs.Refusals.{entry_at, misplaced, predecessor_later}
use Rattle.plan.specs.Steps.{placed, unmet}
use Rattle.plan.proofs.Kept.{few_tasks, not_itself, known_predecessor}

module _ (n : ℕ) (order : List ℕ) (ok : (i : ℕ) → i < n → misplaced n order i ≡ false) where
  -- the first n entries are tasks below n, and none repeats
  pub low : (i : ℕ) → i < n → entry_at order i < n
  unfolding misplaced
  low i m = leb-false n (entry_at order i) (or_left_off (leb n (entry_at order i)) _ (ok i m))

  new : (i : ℕ) → i < n → any i (λ j. eqb (entry_at order j) (entry_at order i)) ≡ false
  unfolding misplaced
  new i m = or_right_off (leb n (entry_at order i)) _ (ok i m)

  -- a later position has another task
  apart : (i j : ℕ) → i < j → j < n → entry_at order i ≡ entry_at order j → ⊥
  apart i j l m e = clash (eq-eqb (entry_at order i) (entry_at order j) e) (any_off j _ (new j m) i l)

  -- each task stands at one position only
  pub once : (i j : ℕ) → i < n → j < n → entry_at order i ≡ entry_at order j → i ≡ j
  once i j l m e =
      by_test (ltb i j) (λ f. absurd (apart i j (ltb-true i j f) m e))
      (λ f. by_test (ltb j i) (λ g. absurd (apart j i (ltb-true j i g) l (sym e)))
      (λ g. omega (arith, ltb-false i j f, ltb-false j i g)))

  -- each task stands somewhere
  pub somewhere : (t : ℕ) → t < n → (i : ℕ) × (i < n) × (entry_at order i ≡ t)
  somewhere t l = let r = cover n (entry_at order) low new t l in (r.0, r.1, eqb-true (entry_at order r.0) t r.2)

-- ---- an order of the tasks of a plan without fault

module _ (p : Plan) (kept : plan_ok p ≡ true) (order : List ℕ) (ok : (i : ℕ) → i < p.tasks → misplaced p.tasks order i ≡ false)
    (i : ℕ) (l : i < p.tasks) where
  abbrev t : ℕ
  t = entry_at order i

  abbrev s : ℕ
  s = predecessors_of p.predecessors t

  -- a predecessor of the task at i stands somewhere else
  stands : (u : ℕ) → u < width → has s u ≡ true → (j : ℕ) × (j < p.tasks) × (entry_at order j ≡ u) × (j ≡ i → ⊥)
  stands u m h =
      let r = somewhere p.tasks order ok u (known_predecessor p kept t (low p.tasks order ok i l) u m h) in (
        r.0,
        r.1,
        r.2,
        λ e.
            clash h (ap (has s) (sym r.2 ∙ ap (entry_at order) e) ∙ not_itself p kept t (low p.tasks order ok i l)),
      )

  abbrev follows : ℕ → Bool
  follows j = ltb i j && has s (entry_at order j)

  -- where none stands later, each stands earlier
  pub before : predecessor_later p.predecessors order p.tasks i ≡ false → (u : ℕ) → u < width → has s u ≡ true
      → (j : ℕ) × (j < i) × (entry_at order j ≡ u)
  unfolding predecessor_later
  before none u m h =
      let r = stands u m h in
      (r.0, by_test (ltb r.0 i) (ltb-true r.0 i) (λ e. absurd (later r e)), r.2)
    where
      later : (r : (j : ℕ) × (j < p.tasks) × (entry_at order j ≡ u) × (j ≡ i → ⊥)) → ltb r.0 i ≡ false → ⊥
      later r e =
          let k : i < r.0 = omega (arith, ltb-false r.0 i e, r.3) in
          clash (and_both (lt-ltb i r.0 k) (ap (has s) r.2 ∙ h)) (any_off p.tasks follows none r.0 r.1)

  -- "later in the order" is "not before"
  pub later_unmet : unmet p.predecessors order i ≡ predecessor_later p.predecessors order p.tasks i
  unfolding unmet predecessor_later placed
  later_unmet = same (any width waits) (any p.tasks follows) forth back
    where
      waits : ℕ → Bool
      waits u = has s u && not (placed order i u)

      forth : any width waits ≡ true → any p.tasks follows ≡ true
      forth e =
          let w = any_elim width waits e in
          let h = and_left (has s w.0) _ w.2 in
          let r = stands w.0 w.1 h in
          let f = not-true _ (and_right (has s w.0) _ w.2) in
          let k : i < r.0 = by_test (ltb r.0 i)
          (λ g. absurd (clash (eq-eqb (entry_at order r.0) w.0 r.2)
          (any_off i (λ k. eqb (entry_at order k) w.0) f r.0 (ltb-true r.0 i g))))
          (λ g. omega (arith, ltb-false r.0 i g, r.3)) in
          any_intro p.tasks follows r.0 r.1 (and_both (lt-ltb i r.0 k) (ap (has s) r.2 ∙ h))

      back : any p.tasks follows ≡ true → any width waits ≡ true
      back e =
          let w = any_elim p.tasks follows e in
          let u = entry_at order w.0 in
          let k = ltb-true i w.0 (and_left (ltb i w.0) (has s u) w.2) in
          any_intro width waits u (lt_of_lt_of_le (low p.tasks order ok w.0 w.1) (few_tasks p kept))
          (and_both (and_right (ltb i w.0) (has s u) w.2) (ap not (off _ (λ g. unplaced w.0 w.1 k (any_elim i _ g)))))
        where
          unplaced : (j : ℕ) → j < p.tasks → i < j → (h : ℕ) × (h < i) × (eqb (entry_at order h) (entry_at order j) ≡ true) → ⊥
          unplaced j m k r = apart p.tasks order ok r.0 j (lt_trans r.1 k) m (eqb-true _ _ r.2)
