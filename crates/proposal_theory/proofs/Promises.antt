-- The schedule of a plan without circle is one that is taken over as it stands. Assumes nothing.
use mathlib.Core.Path.{◌≡◌, refl, sym, ap, ap₂, ◌∙◌, subst}
use mathlib.Core.Bool.{true, false}
use mathlib.Core.List.{List}
use mathlib.Core.Logic.{◌⊎◌, inl, inr, ⊎_elim}
use Prim.Native.Nat.{ℕ, ◌+◌, ◌*◌, ◌%◌, ◌≤◌, ◌<◌}
use native.Mathlib.Nat.{le_refl, le_trans, le_of_eq, lt_of_lt_of_le, lt_of_le_of_lt, div-add-mod'}
use native.Mathlib.Omega.{arith}
use borrow.Author.Tests.{eqb-true, leb-true, lt-ltb, ltb-true, ltb-false}
use lib.Dec.{eqb, leb, ltb}
use lib.ListN.{get_or}
use Rattle.task_set.specs.Bounded.{count}
use Rattle.task_set.specs.Sets.{has}
use Rattle.task_set.proofs.Truth.{by_test, and_left, and_right}
use Rattle.task_set.proofs.Bounded.{any_elim}
use Rattle.task_set.proofs.Tables.{get_d_tabulate}
use Rattle.task_set.proofs.Pigeons.{pigeons}
use Rattle.plan.specs.declared.Plan.{Plan}
use Rattle.plan.specs.Rules.{most_types, most_units, most_tasks, time_of, predecessors_of, release_of, usable, plan_ok}
use Rattle.plan.specs.Refusals.{no_refusal, verdict}
use Rattle.plan.proofs.Kept.{few_tasks, some_units, usable_type, some_type}
use Rattle.runs.specs.Running.{bound}
use Rattle.ranks_arrows.specs.Arrows.{arrow, circle}
use Rattle.ranks.specs.Ranks.{own_rank, rank_of, ranks_of}
use Rattle.ranks.proofs.Callers.{plan_ready}
use Rattle.ranks.proofs.Equation.{own_least, rank_falls}
use Rattle.ranks.proofs.Found.{ordered}
use Rattle.adoption_theory.specs.declared.Schedule.{Schedule}
use Rattle.adoption_theory.specs.Schedules.{type_at, start_at, finish_at, greatest_finish, holds, judged, constraint_by}
use Rattle.adoption_theory.specs.Schedules as schedules
use Rattle.adoption_theory.proofs.Taken.{Taken, judged_taken}
use Rattle.adoption_theory.proofs.Promises as adopted
use Rattle.proposal_theory.specs.Proposals.{place_of, task_at, most_slots, type_of, fits, bench_of_plan, schedule_by}
use Rattle.proposal_theory.specs.Units.{slot}
use Rattle.proposal_theory.proofs.Units.{slot_fits, unit_found}
use Rattle.proposal_theory.proofs.Places as places
use Rattle.proposal_theory.proofs.Benches as benches

module _ (p : Plan) (ok : plan_ok p ≡ true) where
  few : p.tasks ≤ most_tasks
  few = few_tasks p ok

  -- each task fits on the first unit of a type that it can use
  pub some_unit : (t : ℕ) → t < p.tasks → (n : ℕ) × (n < most_slots) × (fits p.units p.wcet t n ≡ true)
  some_unit t l =
      let r = any_elim most_types (usable p.wcet t) (some_type p ok t l) in
      let k = r.0 in (
        slot k 0,
        omega (arith, r.1),
        slot_fits p.units p.wcet t k 0 (omega arith) (some_units p ok k (usable_type p ok t l k r.2)) r.2,
      )

  module _ (straight : circle (arrow p.predecessors) p.tasks ≡ false) where
    -- ---- places

    ranks : List ℕ
    ranks = ranks_of p

    order : ℕ → ℕ
    order = task_at ranks p.tasks

    place : ℕ → ℕ
    place = place_of ranks p.tasks

    order_low : (k : ℕ) → k < p.tasks → order k < p.tasks
    unfolding order
    order_low = places.task_low ranks p.tasks

    order_once : (j k : ℕ) → j < p.tasks → k < p.tasks → order j ≡ order k → j ≡ k
    unfolding order
    order_once = places.task_once ranks p.tasks

    place_low : (t : ℕ) → t < p.tasks → place t < p.tasks
    unfolding place
    place_low = places.place_low ranks p.tasks

    at_place : (t : ℕ) → t < p.tasks → order (place t) ≡ t
    unfolding order place
    at_place = places.task_place ranks p.tasks

    place_once : (t u : ℕ) → t < p.tasks → u < p.tasks → place t ≡ place u → t ≡ u
    place_once t u l m e = sym (at_place t l) ∙ ap order e ∙ at_place u m

    rank_at : (t : ℕ) → t < p.tasks → get_or ranks t 0 ≡ rank_of p.wcet p.predecessors p.tasks t
    unfolding ranks_of ranks
    rank_at t l = get_d_tabulate most_tasks _ t 0 (lt_of_lt_of_le l few) ∙ rw (lt-ltb t p.tasks l)

    -- the rank of a predecessor is greater, so it is placed before
    predecessor_before : (t u : ℕ) → t < p.tasks → u < p.tasks → has (predecessors_of p.predecessors t) u ≡ true → place u < place t
    unfolding arrow place
    predecessor_before t u l m h =
        let ready = plan_ready p ok straight in
        places.greater_place ranks p.tasks t u m
        (omega (
          arith,
          rank_at t l,
          rank_at u m,
          own_least p.wcet u (ready.usable u m),
          rank_falls (own_rank p.wcet) (arrow p.predecessors) p.tasks (ordered ready) u t m l h,
        ))

    -- ---- what each task gets

    abbrev at_unit : ℕ → ℕ
    at_unit = benches.unit p.units p.wcet p.predecessors p.releases order

    pub unit : ℕ → ℕ
    unit t = at_unit (place t)

    pub start : ℕ → ℕ
    start t = benches.start p.units p.wcet p.predecessors p.releases order (place t)

    pub finish : ℕ → ℕ
    finish t = benches.finish p.units p.wcet p.predecessors p.releases order (place t)

    found : (k : ℕ) → k < p.tasks → (at_unit k < most_slots) × (fits p.units p.wcet (order k) (at_unit k) ≡ true)
    found k l = let r = unit_found p.units p.wcet (order k) _ _ (some_unit (order k) (order_low k l)) in (r.0, r.1)

    pub s : Schedule
    s = schedule_by p

    module _ (t : ℕ) (l : t < p.tasks) where
      task_is : schedules.task_at s t ≡ t
      unfolding schedule_by s
      task_is = get_d_tabulate most_tasks (λ t. t) t 0 (lt_of_lt_of_le l few)

      type_is : type_at s t ≡ type_of (unit t)
      unfolding schedule_by bench_of_plan s unit order ranks
      type_is =
          ap (λ (x : ℕ). get_or (bench_of_plan p).types x 0) (sym (at_place t l))
          ∙ benches.type_stays p.units p.wcet p.predecessors p.releases order p.tasks few order_low order_once
          p.tasks (le_refl p.tasks) (place t) (place_low t l)

      start_is : start_at s t ≡ start t
      unfolding schedule_by bench_of_plan s start order ranks
      start_is =
          ap (λ (x : ℕ). get_or (bench_of_plan p).starts x 0) (sym (at_place t l))
          ∙ benches.start_stays p.units p.wcet p.predecessors p.releases order p.tasks few order_low order_once
          p.tasks (le_refl p.tasks) (place t) (place_low t l)

      finish_is : finish_at s t ≡ finish t
      unfolding schedule_by bench_of_plan s finish order ranks
      finish_is =
          ap (λ (x : ℕ). get_or (bench_of_plan p).finishes x 0) (sym (at_place t l))
          ∙ benches.finish_stays p.units p.wcet p.predecessors p.releases order p.tasks few order_low order_once
          p.tasks (le_refl p.tasks) (place t) (place_low t l)

      fit_is : fits p.units p.wcet t (unit t) ≡ true
      unfolding unit
      fit_is = subst (λ (x : ℕ). fits p.units p.wcet x (unit t) ≡ true) (at_place t l) (found (place t) (place_low t l)).1

      unit_there : unit t % most_units < get_or p.units (type_of (unit t)) 0
      unfolding fits
      unit_there = ltb-true _ _ (and_left (ltb (unit t % most_units) (get_or p.units (type_of (unit t)) 0)) _ fit_is)

      can_use : usable p.wcet t (type_of (unit t)) ≡ true
      unfolding fits
      can_use = and_right (ltb (unit t % most_units) (get_or p.units (type_of (unit t)) 0)) _ fit_is

      ends_is : finish t ≡ start t + time_of p.wcet t (type_of (unit t))
      unfolding unit start finish
      ends_is = ap (λ (x : ℕ). start t + time_of p.wcet x (type_of (unit t))) (at_place t l)

      released : release_of p.releases t ≤ start t
      unfolding start
      released =
          le_trans (le_of_eq (ap (release_of p.releases) (sym (at_place t l))))
          (benches.released p.units p.wcet p.predecessors p.releases order p.tasks few order_low order_once (place t))

    waited : (t u : ℕ) → t < p.tasks → u < p.tasks → has (predecessors_of p.predecessors t) u ≡ true → finish u ≤ start t
    unfolding start finish
    waited t u l m h =
        benches.waited p.units p.wcet p.predecessors p.releases order p.tasks few order_low order_once (place u) (place t)
        (predecessor_before t u l m h) (place_low t l) (rw (at_place t l, at_place u m) h)

    -- two tasks on one unit do not overlap
    pub apart : (t u : ℕ) → t < p.tasks → u < p.tasks → (t ≡ u → ⊥) → unit t ≡ unit u → (finish t ≤ start u) ⊎ (finish u ≤ start t)
    unfolding unit start finish
    apart t u l m f e =
        by_test (ltb (place t) (place u)) (λ g. inl (earlier t u l m (ltb-true _ _ g) e))
        (λ g. by_test (ltb (place u) (place t)) (λ h. inr (earlier u t m l (ltb-true _ _ h) (sym e)))
        (λ h. absurd (f (place_once t u l m (omega (arith, ltb-false (place t) (place u) g, ltb-false (place u) (place t) h))))))
      where
        earlier : (t u : ℕ) → t < p.tasks → u < p.tasks → place t < place u → unit t ≡ unit u → finish t ≤ start u
        earlier t u l m k e =
            benches.apart p.units p.wcet p.predecessors p.releases order p.tasks few order_low order_once
            (λ k l. (found k l).0) (place t) (place u) k (place_low u m) e

    -- those that hold a type at an instant are on units of their own, so no more hold it than it has units
    pub room : (k instant : ℕ) → count p.tasks (holds s k instant) ≤ get_or p.units k 0
    unfolding holds
    room k instant = pigeons p.tasks (get_or p.units k 0) (holds s k instant) (λ t. unit t % most_units) low other
      where
        on : (t : ℕ) → t < p.tasks → holds s k instant t ≡ true → type_of (unit t) ≡ k
        on t l h = sym (type_is t l) ∙ eqb-true _ _ (and_left (eqb (type_at s t) k) _ h)

        begun : (t : ℕ) → t < p.tasks → holds s k instant t ≡ true → start t ≤ instant
        begun t l h =
            le_trans (le_of_eq (sym (start_is t l)))
            (leb-true _ _ (and_left (leb (start_at s t) instant) _ (and_right (eqb (type_at s t) k) _ h)))

        going : (t : ℕ) → t < p.tasks → holds s k instant t ≡ true → instant < finish t
        going t l h =
            lt_of_lt_of_le (ltb-true _ _ (and_right (leb (start_at s t) instant) _ (and_right (eqb (type_at s t) k) _ h)))
            (le_of_eq (finish_is t l))

        low : (t : ℕ) → t < p.tasks → holds s k instant t ≡ true → unit t % most_units < get_or p.units k 0
        low t l h = lt_of_lt_of_le (unit_there t l) (le_of_eq (ap (λ (x : ℕ). get_or p.units x 0) (on t l h)))

        other : (t u : ℕ) → t < u → u < p.tasks → holds s k instant t ≡ true → holds s k instant u ≡ true
            → unit t % most_units ≡ unit u % most_units → ⊥
        other t u q m h g e =
            ⊎_elim (λ x. omega (arith, x, begun u m g, going t l h)) (λ x. omega (arith, x, begun t l h, going u m g))
            (apart t u l m (λ z. omega arith) alike)
          where
            l : t < p.tasks
            l = omega arith

            alike : unit t ≡ unit u
            alike =
                sym (div-add-mod' (unit t) most_units) ∙ ap₂ (λ (x y : ℕ). x * most_units + y) (on t l h ∙ sym (on u m g)) e
                ∙ div-add-mod' (unit u) most_units

    -- the schedule keeps every rule of a schedule that is taken over
    pub taken : Taken p (schedule_by p)
    unfolding schedule_by s
    taken =
        record {
          kept = ok;
          whole = refl;
          task = λ t l. lt_of_le_of_lt (le_of_eq (task_is t l)) l;
          once = λ t u l m e. sym (task_is t l) ∙ e ∙ task_is u m;
          somewhere = λ t l. (t, l, task_is t l);
          type = λ t l. lt_of_le_of_lt (le_of_eq (type_is t l)) (usable_type p ok t l (type_of (unit t)) (can_use t l));
          can_use = λ t l. ap₂ (usable p.wcet) (task_is t l) (type_is t l) ∙ can_use t l;
          ends = λ t l.
              finish_is t l ∙ ends_is t l ∙ sym (ap₂ ◌+◌ (start_is t l) (ap₂ (time_of p.wcet) (task_is t l) (type_is t l)));
          waited = λ t u l m h.
              le_trans (le_of_eq (finish_is u m))
              (le_trans (waited t u l m (sym (ap₂ (λ (x y : ℕ). has (predecessors_of p.predecessors x) y) (task_is t l) (task_is u m)) ∙ h))
              (le_of_eq (sym (start_is t l))));
          released = λ t l.
              le_trans (le_of_eq (ap (release_of p.releases) (task_is t l))) (le_trans (released t l) (le_of_eq (sym (start_is t l))));
          room = λ t l. room (type_at s t) (start_at s t);
        }

    -- so it is a list that is taken over (document 02, 5)
    pub list_accepted : judged p (schedule_by p) ≡ no_refusal
    list_accepted = judged_taken taken

    -- ---- both promises

    pub passes : (verdict p (constraint_by (schedule_by p))).number ≡ 0
    passes = adopted.number_0 taken

    pub in_time : bound p (constraint_by (schedule_by p)) ≤ greatest_finish (schedule_by p)
    in_time = adopted.in_time taken
