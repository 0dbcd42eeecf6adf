-- What a plan that breaks no rule gives. Assumes nothing.
use mathlib.Core.Path.{◌≡◌, refl, sym, ◌∙◌}
use mathlib.Core.Bool.{Bool, true, false, ◌&&◌, ◌||◌, not, and-false, or-false}
use mathlib.Core.List.{List}
use mathlib.Core.Logic.{◌⊎◌, inl, inr, ⊎_elim}
use Prim.Native.Nat.{ℕ, ◌≤◌, ◌<◌, zero-le}
use native.Mathlib.Nat.{lt_of_lt_of_le}
use native.Mathlib.Omega.{arith}
use borrow.Author.Tests.{eqb-true, leb-true, ltb-true, ltb-false, lt-ltb, not-true}
use lib.Dec.{eqb, leb, ltb}
use lib.ListN.{get_or}
use Rattle.task_set.specs.Bounded.{all, any, implies}
use Rattle.task_set.specs.Sets.{width, has}
use Rattle.task_set.proofs.Truth.{by_test, clash, and_left, and_right, or_cases, implies_elim}
use Rattle.task_set.proofs.Bounded.{all_elim}
use Rattle.plan.specs.declared.Plan.{Plan}
use Rattle.plan.specs.Rules.{most_types, most_units, most_tasks, longest_time, latest_deadline, latest_release, between, time_of, predecessors_of, instant_of, deadline_of, release_of, usable, counts_ok, units_ok, pair_ok, pairs_ok, some_type_ok, predecessors_ok, task_ok, instant_ok, plan_ok}

-- a rule for present things and one for absent ones, at a present thing
at_present : (here a b : Bool) → (here && a) || (not here && b) ≡ true → here ≡ true → a ≡ true
at_present here a b e f = sym (or-false a) ∙ (rw f at e)

pub between_low : (a x b : ℕ) → between a x b ≡ true → a ≤ x
between_low a x b e = leb-true a x (and_left (leb a x) (leb x b) e)

pub between_high : (a x b : ℕ) → between a x b ≡ true → x ≤ b
between_high a x b e = leb-true x b (and_right (leb a x) (leb x b) e)

pub counted_types : (types tasks : ℕ) → counts_ok types tasks ≡ true → types ≤ most_types
unfolding counts_ok
counted_types types tasks e = between_high 1 types most_types (and_left (between 1 types most_types) _ e)

-- the best and worst time of a task on a type that it can use
pub record Times (best worst : ℕ) : Type 0 where
  pub some : 1 ≤ best
  pub ordered : best ≤ worst
  pub short : worst ≤ longest_time

module _ (here : Bool) (best worst : ℕ) (ok : pair_ok here best worst ≡ true) where
  abbrev in_range : Bool
  in_range = leb 1 best && (leb best worst && leb worst longest_time)

  -- it is 0 and 0, or one of a present task and type
  pair_cases : ((best ≡ 0) × (worst ≡ 0)) ⊎ ((here ≡ true) × Times best worst)
  unfolding pair_ok
  pair_cases = go (or_cases (eqb best 0 && eqb worst 0) (here && in_range) ok)
    where
      go : (eqb best 0 && eqb worst 0 ≡ true) ⊎ (here && in_range ≡ true) → ((best ≡ 0) × (worst ≡ 0)) ⊎ ((here ≡ true) × Times best worst)
      go (inl g) = inl (eqb-true best 0 (and_left (eqb best 0) (eqb worst 0) g), eqb-true worst 0 (and_right (eqb best 0) (eqb worst 0) g))
      go (inr g) =
          let r = and_right here in_range g in
          let q = and_right (leb 1 best) (leb best worst && leb worst longest_time) r in
          inr (
            and_left here in_range g,
            record {
              some = leb-true 1 best (and_left (leb 1 best) (leb best worst && leb worst longest_time) r);
              ordered = leb-true best worst (and_left (leb best worst) (leb worst longest_time) q);
              short = leb-true worst longest_time (and_right (leb best worst) (leb worst longest_time) q);
            },
          )

  pair_short : worst ≤ longest_time
  pair_short = ⊎_elim (λ z. omega (arith, z.1)) (λ h. h.1.short) pair_cases

  pair_used : ltb 0 worst ≡ true → (here ≡ true) × Times best worst
  pair_used u = ⊎_elim (λ z. absurd (omega (arith, ltb-true 0 worst u, z.1))) (λ h. h) pair_cases

-- where the rule of instants holds of all numbers, one that has an instant is a task, and the instant is in range
instant_kept : (tasks latest : ℕ) (instants : List ℕ) → all most_tasks (instant_ok tasks latest instants) ≡ true → (t : ℕ)
    → 0 < instant_of instants t → (t < tasks) × (instant_of instants t ≤ latest)
unfolding instant_of instant_ok
instant_kept tasks latest instants e t l = by_test (ltb t most_tasks) inside (λ f. absurd (omega (arith, rw f at l)))
  where
    i : ℕ
    i = instant_of instants t

    inside : ltb t most_tasks ≡ true → (t < tasks) × (i ≤ latest)
    inside f =
        ⊎_elim (λ z. absurd (omega (arith, eqb-true i 0 z)))
        (λ q. (ltb-true t tasks (and_left (ltb t tasks) _ q), leb-true i latest (and_right (ltb t tasks) _ q)))
        (or_cases (eqb i 0) _ (all_elim most_tasks _ e t (ltb-true t most_tasks f)))

module _ (p : Plan) (e : plan_ok p ≡ true) where
  abbrev units_rule : Bool
  units_rule = all most_types (units_ok p.types p.units)

  abbrev tasks_rule : Bool
  tasks_rule = all most_tasks (task_ok p.types p.tasks p.bcet p.wcet p.predecessors)

  abbrev deadlines_rule : Bool
  deadlines_rule = all most_tasks (instant_ok p.tasks latest_deadline p.deadlines)

  abbrev releases_rule : Bool
  releases_rule = all most_tasks (instant_ok p.tasks latest_release p.releases)

  counts : counts_ok p.types p.tasks ≡ true
  unfolding plan_ok
  counts = and_left (counts_ok p.types p.tasks) _ e

  rest : units_rule && (tasks_rule && (deadlines_rule && releases_rule)) ≡ true
  unfolding plan_ok
  rest = and_right (counts_ok p.types p.tasks) _ e

  per_task : tasks_rule && (deadlines_rule && releases_rule) ≡ true
  per_task = and_right units_rule _ rest

  instants : deadlines_rule && releases_rule ≡ true
  instants = and_right tasks_rule _ per_task

  pub some_types : 1 ≤ p.types
  unfolding counts_ok
  some_types = between_low 1 p.types most_types (and_left (between 1 p.types most_types) _ counts)

  pub few_types : p.types ≤ most_types
  few_types = counted_types p.types p.tasks counts

  pub some_tasks : 1 ≤ p.tasks
  unfolding counts_ok
  some_tasks = between_low 1 p.tasks most_tasks (and_right (between 1 p.types most_types) _ counts)

  pub few_tasks : p.tasks ≤ most_tasks
  unfolding counts_ok
  few_tasks = between_high 1 p.tasks most_tasks (and_right (between 1 p.types most_types) _ counts)

  -- a task with a deadline is one of the plan, and the deadline is in range
  pub due_task : (t : ℕ) → 0 < deadline_of p.deadlines t
      → (t < p.tasks) × (deadline_of p.deadlines t ≤ latest_deadline)
  due_task = instant_kept p.tasks latest_deadline p.deadlines (and_left deadlines_rule releases_rule instants)

  -- no not-before instant is later than the latest
  pub release_low : (t : ℕ) → release_of p.releases t ≤ latest_release
  release_low t =
      by_test (ltb 0 r)
      (λ l. (instant_kept p.tasks latest_release p.releases (and_right deadlines_rule releases_rule instants) t
      (ltb-true 0 r l)).1)
      (λ l. omega (arith, ltb-false 0 r l))
    where
      r : ℕ
      r = release_of p.releases t

  units_between : (k : ℕ) → k < p.types → between 1 (get_or p.units k 0) most_units ≡ true
  unfolding units_ok
  units_between k l =
      at_present (ltb k p.types) (between 1 (get_or p.units k 0) most_units) _
      (all_elim most_types (units_ok p.types p.units) (and_left units_rule _ rest) k
      (lt_of_lt_of_le l few_types)) (lt-ltb k p.types l)

  pub some_units : (k : ℕ) → k < p.types → 1 ≤ get_or p.units k 0
  some_units k l = between_low 1 (get_or p.units k 0) most_units (units_between k l)

  pub few_units : (k : ℕ) → k < p.types → get_or p.units k 0 ≤ most_units
  few_units k l = between_high 1 (get_or p.units k 0) most_units (units_between k l)

  module _ (t : ℕ) (present : t < p.tasks) where
    abbrev pairs_rule : Bool
    pairs_rule = pairs_ok p.types p.tasks p.bcet p.wcet t

    abbrev type_rule : Bool
    type_rule = some_type_ok p.tasks p.wcet t

    abbrev predecessors_rule : Bool
    predecessors_rule = predecessors_ok p.tasks p.predecessors t

    task_ok_lem : pairs_rule && (type_rule && predecessors_rule) ≡ true
    unfolding task_ok
    task_ok_lem =
        all_elim most_tasks (task_ok p.types p.tasks p.bcet p.wcet p.predecessors)
        (and_left tasks_rule _ per_task) t
        (lt_of_lt_of_le present few_tasks)

    pair_ok_lem : (k : ℕ) → k < most_types
        → pair_ok (ltb t p.tasks && ltb k p.types) (time_of p.bcet t k) (time_of p.wcet t k) ≡ true
    unfolding pairs_ok
    pair_ok_lem = all_elim most_types _ (and_left pairs_rule (type_rule && predecessors_rule) task_ok_lem)

    pub usable_times : (k : ℕ) → k < p.types → usable p.wcet t k ≡ true → Times (time_of p.bcet t k) (time_of p.wcet t k)
    unfolding usable
    usable_times k m u = (pair_used _ _ _ (pair_ok_lem k (lt_of_lt_of_le m few_types)) u).1

    -- no time is longer than the longest, and a type that the task can use is one of the plan
    pub short_time : (k : ℕ) → time_of p.wcet t k ≤ longest_time
    unfolding time_of
    short_time k =
        by_test (ltb k most_types) (λ e. pair_short _ _ _ (pair_ok_lem k (ltb-true k most_types e)))
        (λ e. rw (e, and-false (ltb t most_tasks)) zero-le)

    pub usable_type : (k : ℕ) → usable p.wcet t k ≡ true → k < p.types
    unfolding usable time_of
    usable_type k u =
        by_test (ltb k most_types)
        (λ e. ltb-true k p.types (and_right (ltb t p.tasks) _ (pair_used _ _ _ (pair_ok_lem k (ltb-true k most_types e)) u).0))
        (λ e. absurd (clash u (rw (e, and-false (ltb t most_tasks)) refl)))

    pub some_type : any most_types (usable p.wcet t) ≡ true
    unfolding some_type_ok
    some_type =
        implies_elim (ltb t p.tasks) _
        (and_left type_rule predecessors_rule (and_right pairs_rule (type_rule && predecessors_rule) task_ok_lem))
        (lt-ltb t p.tasks present)

    abbrev predecessors : ℕ
    predecessors = predecessors_of p.predecessors t

    abbrev known : ℕ → Bool
    known u = implies (has predecessors u) (ltb u p.tasks)

    predecessors_ok_lem : not (has predecessors t) && all width known ≡ true
    unfolding predecessors_ok
    predecessors_ok_lem =
        at_present (ltb t p.tasks) (not (has predecessors t) && all width known) (eqb predecessors 0)
        (and_right type_rule predecessors_rule (and_right pairs_rule (type_rule && predecessors_rule) task_ok_lem))
        (lt-ltb t p.tasks present)

    pub not_itself : has predecessors t ≡ false
    not_itself = not-true (has predecessors t) (and_left (not (has predecessors t)) (all width known) predecessors_ok_lem)

    pub known_predecessor : (u : ℕ) → u < width → has predecessors u ≡ true → u < p.tasks
    known_predecessor u m h =
        ltb-true u p.tasks
        (implies_elim (has predecessors u) (ltb u p.tasks)
        (all_elim width known (and_right (not (has predecessors t)) (all width known) predecessors_ok_lem) u m) h)
