-- What a schedule that nothing refuses gives. Assumes nothing.
use mathlib.Core.Path.{◌≡◌, refl, sym, ap, ◌∙◌, subst}
use mathlib.Core.Bool.{Bool, true, false, ◌&&◌, ◌||◌, not}
use Prim.Native.Nat.{ℕ, ◌+◌, ◌≤◌, ◌<◌}
use native.Mathlib.Nat.{le_refl, lt_of_lt_of_le, lt_trans}
use native.Mathlib.Omega.{arith}
use borrow.Author.Tests.{eq-eqb, ne_eqb, eqb-true, leb-false, lt-leb, le-ltb, ltb-true, ltb-false, not-false}
use lib.Dec.{eqb, leb, ltb}
use lib.ListN.{get_or}
use Rattle.task_set.specs.Bounded.{count}
use Rattle.task_set.specs.Sets.{has}
use Rattle.task_set.proofs.Truth.{by_test, clash, and_both, or_none, or_left_off, or_right_off}
use Rattle.task_set.proofs.Bounded.{any_none, any_off}
use Rattle.task_set.proofs.Search.{first_absent}
use Rattle.plan.specs.declared.Plan.{Plan}
use Rattle.plan.specs.Rules.{time_of, predecessors_of, release_of, usable, plan_ok}
use Rattle.plan.specs.declared.Verdict.{Verdict}
use Rattle.plan.specs.Refusals.{misplaced, unusable, no_refusal, unless_at}
use Rattle.plan.specs.Steps.{Positions}
use Rattle.plan.proofs.Kept.{few_tasks, few_types}
use Rattle.plan.proofs.Refusing.{cond_passed, unless_none, unless_passed}
use Rattle.plan.proofs.Arranged.{low, once, somewhere}
use Rattle.adoption_theory.specs.declared.Schedule.{Schedule}
use Rattle.adoption_theory.specs.Schedules.{task_at, type_at, start_at, finish_at, mistimed, holds, hasty, early, crowded, unmeetable, judged}

-- records go from 0 up to the number of tasks
pub record Taken (p : Plan) (s : Schedule) : Type 0 where
  pub kept : plan_ok p ≡ true
  pub whole : s.len ≡ p.tasks
  -- each record has a task of the plan, no two the same, and each task has a record
  pub task : (i : ℕ) → i < p.tasks → task_at s i < p.tasks
  pub once : (i j : ℕ) → i < p.tasks → j < p.tasks → task_at s i ≡ task_at s j → i ≡ j
  pub somewhere : (t : ℕ) → t < p.tasks → (i : ℕ) × (i < p.tasks) × (task_at s i ≡ t)
  -- its type is one that the task can use, and it holds a unit of it for its worst time, which is not 0
  pub type : (i : ℕ) → i < p.tasks → type_at s i < p.types
  pub can_use : (i : ℕ) → i < p.tasks → usable p.wcet (task_at s i) (type_at s i) ≡ true
  pub ends : (i : ℕ) → i < p.tasks → finish_at s i ≡ start_at s i + time_of p.wcet (task_at s i) (type_at s i)
  -- it starts after its predecessors and not before its instant, with a unit for each record that holds its type then
  pub waited : (i j : ℕ) → i < p.tasks → j < p.tasks
      → has (predecessors_of p.predecessors (task_at s i)) (task_at s j) ≡ true → finish_at s j ≤ start_at s i
  pub released : (i : ℕ) → i < p.tasks → release_of p.releases (task_at s i) ≤ start_at s i
  pub room : (i : ℕ) → i < p.tasks → count p.tasks (holds s (type_at s i) (start_at s i)) ≤ get_or p.units (type_at s i) 0

-- ---- what no fault of a record says

module _ (p : Plan) (s : Schedule) (i : ℕ) where
  abbrev unused : Bool
  unused = unusable p.types p.wcet s.tasks s.types i

  module _ (right : mistimed p.types p.wcet s i ≡ false) where
    fits : unused ≡ false
    unfolding mistimed
    fits = or_left_off unused _ right

    pub type_of_lem : type_at s i < p.types
    unfolding unusable
    type_of_lem = leb-false p.types (type_at s i) (or_left_off (leb p.types (type_at s i)) _ fits)

    use_of : usable p.wcet (task_at s i) (type_at s i) ≡ true
    unfolding unusable
    use_of = not-false _ (or_right_off (leb p.types (type_at s i)) _ fits)

    ends_of : finish_at s i ≡ start_at s i + time_of p.wcet (task_at s i) (type_at s i)
    unfolding mistimed
    ends_of = eqb-true _ _ (not-false _ (or_right_off unused _ right))

  module _ (right : unmeetable p.units p.predecessors p.releases s i ≡ false) where
    waited_of : (j : ℕ) → j < s.len → has (predecessors_of p.predecessors (task_at s i)) (task_at s j) ≡ true
        → finish_at s j ≤ start_at s i
    unfolding unmeetable hasty
    waited_of j l h =
        by_test (ltb (start_at s i) (finish_at s j))
        (λ f. absurd (clash (and_both h f) (any_off s.len _ (or_left_off _ (early p.releases s i || crowded p.units s i) right) j l)))
        (ltb-false (start_at s i) (finish_at s j))

    released_of : release_of p.releases (task_at s i) ≤ start_at s i
    unfolding unmeetable early
    released_of = ltb-false _ _ (or_left_off _ (crowded p.units s i) (or_right_off (hasty p.predecessors s i) _ right))

    room_of : count s.len (holds s (type_at s i) (start_at s i)) ≤ get_or p.units (type_at s i) 0
    unfolding unmeetable crowded
    room_of = ltb-false _ _ (or_right_off (early p.releases s i) _ (or_right_off (hasty p.predecessors s i) _ right))

-- ---- nothing is refused

pub taken : (p : Plan) (s : Schedule) → (judged p s).number ≡ 0 → Taken p s
unfolding judged
taken p s e =
    let r8 = cond_passed 8 0 (not (plan_ok p)) _ (omega arith) e in
    let r = cond_passed 20 s.len (not (eqb s.len p.tasks)) _ (omega arith) r8.1 in
    let whole : s.len ≡ p.tasks = eqb-true s.len p.tasks (not-false _ r.0) in
    let r20 = unless_passed 20 s.len (misplaced p.tasks s.tasks) _ (omega arith) r.1 in
    let r21 = unless_passed 21 s.len (mistimed p.types p.wcet s) _ (omega arith) r20.1 in
    let r22 = unless_passed 22 s.len (unmeetable p.units p.predecessors p.releases s) _ (omega arith) r21.1 in
    let order : (i : ℕ) → i < p.tasks → misplaced p.tasks s.tasks i ≡ false = λ i l. r20.0 i (omega arith) in
    record {
      kept = not-false _ r8.0;
      whole = whole;
      task = low p.tasks s.tasks order;
      once = once p.tasks s.tasks order;
      somewhere = somewhere p.tasks s.tasks order;
      type = λ i l. type_of_lem p s i (r21.0 i (omega arith));
      can_use = λ i l. use_of p s i (r21.0 i (omega arith));
      ends = λ i l. ends_of p s i (r21.0 i (omega arith));
      waited = λ i j l m. waited_of p s i (r22.0 i (omega arith)) j (omega arith);
      released = λ i l. released_of p s i (r22.0 i (omega arith));
      room = λ i l.
          subst (λ (n : ℕ). count n (holds s (type_at s i) (start_at s i)) ≤ get_or p.units (type_at s i) 0) whole
          (room_of p s i (r22.0 i (omega arith)));
    }

-- ---- what it gives besides

module _ {p : Plan} {s : Schedule} (a : Taken p s) where
  -- what a pass over the records relies on
  pub records : Positions s.tasks s.types p.tasks
  records =
      record {
        few = few_tasks p a.kept;
        task = a.task;
        once = a.once;
        type = λ i l. lt_of_lt_of_le (a.type i l) (few_types p a.kept);
      }

  -- a record holds its type for some time
  pub lasts : (i : ℕ) → i < p.tasks → start_at s i < finish_at s i
  unfolding usable
  lasts i l = omega (arith, a.ends i l, ltb-true 0 (time_of p.wcet (task_at s i) (type_at s i)) (a.can_use i l))

  -- ---- nothing is refused of it

  listed : {i : ℕ} → i < s.len → i < p.tasks
  listed l = omega (arith, a.whole)

  not_20 : (i : ℕ) → i < s.len → misplaced p.tasks s.tasks i ≡ false
  unfolding misplaced
  not_20 i l =
      or_none (lt-leb _ _ (a.task i (listed l)))
      (any_none i _ (λ j m. ne_eqb _ _ (λ e. apart m (a.once j i (listed (lt_trans m l)) (listed l) e))))
    where
      apart : {x y : ℕ} → x < y → x ≡ y → ⊥
      apart m e = omega arith

  not_21 : (i : ℕ) → i < s.len → mistimed p.types p.wcet s i ≡ false
  unfolding mistimed unusable
  not_21 i l =
      or_none (or_none (lt-leb _ _ (a.type i (listed l))) (ap not (a.can_use i (listed l)))) (ap not (eq-eqb _ _ (a.ends i (listed l))))

  not_22 : (i : ℕ) → i < s.len → unmeetable p.units p.predecessors p.releases s i ≡ false
  unfolding unmeetable hasty early crowded
  not_22 i l = or_none (any_none s.len _ each) (or_none (le-ltb _ _ (a.released i (listed l))) (le-ltb _ _ room))
    where
      room : count s.len (holds s (type_at s i) (start_at s i)) ≤ get_or p.units (type_at s i) 0
      room = subst (λ (n : ℕ). count n (holds s (type_at s i) (start_at s i)) ≤ get_or p.units (type_at s i) 0) (sym a.whole) (a.room i (listed l))

      each : (j : ℕ) → j < s.len
          → has (predecessors_of p.predecessors (task_at s i)) (task_at s j) && ltb (start_at s i) (finish_at s j) ≡ false
      each j m =
          by_test (has (predecessors_of p.predecessors (task_at s i)) (task_at s j))
          (λ e. rw e (le-ltb _ _ (a.waited i j (listed l) (listed m) e))) (λ e. rw e refl)

  pub judged_taken : judged p s ≡ no_refusal
  unfolding judged
  judged_taken =
      rw (a.kept, eq-eqb s.len p.tasks a.whole)
      (none 20 _ _ not_20 ∙ none 21 _ _ not_21 ∙ none 22 _ _ not_22)
    where
      none : (number : ℕ) (fault : ℕ → Bool) (rest : Verdict) → ((i : ℕ) → i < s.len → fault i ≡ false)
          → unless_at number s.len fault rest ≡ rest
      none number fault rest h = sym (unless_none number s.len fault rest (first_absent s.len fault h) (le_refl s.len))
