-- What the functions that place the tasks ask of each other, and from the arrays to the constraint. Assumes nothing.
use mathlib.Core.Path.{◌≡◌, refl, sym, ap, ap₂, ◌∙◌}
use mathlib.Core.Bool.{cond}
use mathlib.Core.List.{List}
use Prim.Native.Nat.{ℕ, zero, suc, ◌+◌, ◌*◌, ◌≤◌, ◌<◌, max}
use native.Mathlib.Nat.{le_trans, le_of_eq, le_step, lt_of_lt_of_le, lt-suc_self}
use native.Mathlib.Numerals.{add-one}
use native.Mathlib.Omega.{arith}
use borrow.Author.Tests.{lt-ltb, ltb-true}
use lib.Dec.{eqb, ltb}
use lib.ListN.{get_or, set}
use Rattle.task_set.specs.Bounded.{tabulate}
use Rattle.task_set.proofs.Truth.{by_test}
use Rattle.task_set.proofs.Bounded.{any_elim, count_cong}
use Rattle.task_set.proofs.Search.{first_cong}
use Rattle.task_set.proofs.Tables.{get_d_tabulate, tabulate_cong}
use Rattle.task_set.proofs.Upto.{Upto, upto_more}
use Rattle.plan.specs.declared.Plan.{Plan}
use Rattle.plan.specs.Rules.{most_types, most_tasks, longest_time, last_instant, latest_release, predecessors_of, release_of, usable}
use Rattle.plan.specs.Refusals.{constraint_of}
use Rattle.plan.proofs.Kept.{few_tasks, release_low, some_units, few_units, short_time, usable_type, some_type}
use Rattle.simulation.specs.Simulated.{latest_of}
use Rattle.adoption_theory.specs.declared.Schedule.{Schedule}
use Rattle.adoption_theory.specs.Schedules.{record_at, in_place, constraint_by}
use Rattle.adoption_theory.specs.Schedules as schedules
use Rattle.proposal_theory.specs.Proposals.{most_slots, type_of, held_until, start_on, finish_on, unit_of, Bench, bench_of, placed, bench_after, by_task}
use Rattle.proposal_theory.proofs.Units.{unit_found}
use Rattle.proposal_theory.proofs.Benches.{Before, held_before, bench_before}
use Rattle.proposal_order.specs.Steps.{place_by, task_by, order_by, Apart, start_keys, along}
use Rattle.proposal_order.proofs.Keys.{at_low, start_keys_apart, start_key_before}
use Rattle.proposal_choice.specs.Steps.{latest, Placeable}
use Rattle.proposal_choice.proofs.Choices.{some_fit}
use Rattle.proposal.specs.Steps.{Orderly}

-- ---- one task is placed

pub held_by : (predecessors releases finishes : List ℕ) (t : ℕ) {needed waited release held : ℕ} → needed ≡ predecessors_of predecessors t
    → waited ≡ latest_of finishes needed → release ≡ release_of releases t → held ≡ max waited release
    → held ≡ held_until predecessors releases finishes t
unfolding held_until
held_by predecessors releases finishes t e f g h = h ∙ ap₂ max (f ∙ ap (latest_of finishes) e) g

-- the unit is one that is kept
pub unit_kept : {units wcet : List ℕ} {t : ℕ} {free : List ℕ} (held : ℕ) {unit : ℕ} → Placeable units wcet t free
    → unit ≡ unit_of units wcet t free held → unit < most_slots
unit_kept {units} {wcet} {t} {free} held h e = rw e (unit_found units wcet t free held (some_fit h)).0

pub placed_by : (units wcet predecessors releases : List ℕ) (t : ℕ) (types starts finishes free : List ℕ) {held unit finish start : ℕ}
    → held ≡ held_until predecessors releases finishes t → unit ≡ unit_of units wcet t free held → finish ≡ finish_on wcet t free held unit
    → start ≡ start_on free held unit
    → bench_of (set types t (type_of unit)) (set starts t start) (set finishes t finish) (set free unit finish)
    ≡ placed units wcet predecessors releases t (bench_of types starts finishes free)
unfolding placed
placed_by units wcet predecessors releases t types starts finishes free e f g h = rw (h, g, f, e) refl

-- ---- the loop

-- a loop's next step
pub bench_next : (units wcet predecessors releases : List ℕ) (order : ℕ → ℕ) (n : ℕ)
    → bench_after units wcet predecessors releases order (n + 1)
    ≡ placed units wcet predecessors releases (order n) (bench_after units wcet predecessors releases order n)
unfolding bench_after
bench_next units wcet predecessors releases order n = ap (bench_after units wcet predecessors releases order) (add-one n)

-- orders that agree up to there give one bench
pub bench_cong : (units wcet predecessors releases : List ℕ) (f g : ℕ → ℕ) (n : ℕ) → ((k : ℕ) → k < n → f k ≡ g k)
    → bench_after units wcet predecessors releases f n ≡ bench_after units wcet predecessors releases g n
unfolding bench_after
bench_cong units wcet predecessors releases f g zero h = refl
bench_cong units wcet predecessors releases f g (suc n) h =
    ap₂ (placed units wcet predecessors releases) (h n (lt-suc_self n))
    (bench_cong units wcet predecessors releases f g n (λ k l. h k (le_step l)))

module _ {p : Plan} {order : List ℕ} (o : Orderly p order) where
  abbrev pub at : ℕ → ℕ
  at n = get_or order n 0

  abbrev pub after : ℕ → Bench
  after = bench_after p.units p.wcet p.predecessors p.releases at

  few : p.tasks ≤ most_tasks
  few = few_tasks p o.kept

  small : (n : ℕ) → n ≤ p.tasks → Before (after n).starts (latest_release + n * longest_time)
      × Before (after n).finishes (latest_release + n * longest_time) × Before (after n).free (latest_release + n * longest_time)
  small =
      bench_before p.units p.wcet p.predecessors p.releases at p.tasks
      (λ n k l. short_time p o.kept (at n) (o.low n l) k) (release_low p o.kept)

  module _ {n : ℕ} {b : Bench} (h : Upto after p.tasks n b) where
    module _ (l : n < p.tasks) where
      early : latest_release + n * longest_time ≤ latest
      early = omega (arith, few)

      pub task_fits : at n < most_tasks
      task_fits = lt_of_lt_of_le (o.low n l) few

      pub placeable : Placeable p.units p.wcet (at n) b.free
      placeable =
          let m = o.low n l in
          record {
            usable_type = any_elim most_types (usable p.wcet (at n)) (some_type p o.kept (at n) m);
            some_units = λ k u. some_units p o.kept k (usable_type p o.kept (at n) m k u);
            few_units = λ k u. few_units p o.kept k (usable_type p o.kept (at n) m k u);
            short = short_time p o.kept (at n) m;
            comes_free = λ i. le_trans (le_of_eq (ap (λ (d : Bench). get_or d.free i 0) h.is)) (le_trans ((small n h.within).2 i) early);
          }

      pub held_early : held_until p.predecessors p.releases b.finishes (at n) ≤ latest
      held_early =
          held_before p.predecessors p.releases b.finishes (at n) latest
          (λ i. le_trans (le_of_eq (ap (λ (d : Bench). get_or d.finishes i 0) h.is)) (le_trans ((small n h.within).1 i) early))
          (le_trans (release_low p o.kept (at n)) (omega arith))

      pub after_more : {d : Bench} → d ≡ placed p.units p.wcet p.predecessors p.releases (at n) b
          → Upto after p.tasks (n + 1) d
      after_more e =
          upto_more l (e ∙ ap (placed p.units p.wcet p.predecessors p.releases (at n)) h.is
          ∙ sym (bench_next p.units p.wcet p.predecessors p.releases at n))

    pub starts_fit : (i : ℕ) → get_or b.starts i 0 ≤ last_instant
    starts_fit i =
        le_trans (le_of_eq (ap (λ (d : Bench). get_or d.starts i 0) h.is))
        (le_trans ((small n h.within).0 i) (omega (arith, few, h.within)))

-- ---- from the arrays to the constraint

module _ (tasks : ℕ) (few : tasks ≤ most_tasks) (b : Bench) (fit : (i : ℕ) → get_or b.starts i 0 ≤ last_instant) where
  s : Schedule
  s = by_task tasks b

  keys : List ℕ
  keys = start_keys b.starts

  wide : {i : ℕ} → i < tasks → i < most_tasks
  wide l = lt_of_lt_of_le l few

  number_at : (i : ℕ) → i < tasks → schedules.task_at s i ≡ i
  unfolding s
  number_at i l = get_d_tabulate most_tasks (λ t. t) i 0 (wide l)

  before_by : (t u : ℕ) → t < tasks → u < tasks → schedules.before s t u ≡ ltb (get_or keys t 0) (get_or keys u 0)
  unfolding schedules.before s keys
  before_by t u l m =
      rw (number_at t l, number_at u m) (sym (start_key_before b.starts t u (wide l) (wide m) (fit t) (fit u)))

  record_by : (k : ℕ) → record_at s k ≡ task_by keys tasks k
  unfolding record_at schedules.place_of task_by place_by s
  record_by k =
      first_cong tasks _ _ (λ t l. ap (λ (n : ℕ). eqb n k) (count_cong tasks _ _ (λ u m. before_by t u l m)))

  apart : Apart (start_keys b.starts) tasks
  apart = start_keys_apart b.starts tasks few

  same : (k : ℕ) {x y : ℕ} → (k < tasks → x ≡ y) → cond (ltb k tasks) x 0 ≡ cond (ltb k tasks) y 0
  same k f = by_test (ltb k tasks) (λ e. rw e (f (ltb-true k tasks e))) (λ e. rw e refl)

  order_is : order_by (start_keys b.starts) tasks ≡ in_place (by_task tasks b) (tabulate most_tasks (λ t. t))
  unfolding in_place order_by s keys
  order_is =
      tabulate_cong most_tasks _ _ (λ k m. same k (λ l.
      sym (ap (λ (x : ℕ). get_or (tabulate most_tasks (λ t. t)) x 0) (record_by k) ∙ number_at _ (at_low apart k l))))

  types_are : along b.types (order_by (start_keys b.starts) tasks) tasks ≡ in_place (by_task tasks b) b.types
  unfolding in_place order_by along s keys
  types_are =
      tabulate_cong most_tasks _ _ (λ k m. same k (λ l.
      ap (λ (x : ℕ). get_or b.types x 0) (get_d_tabulate most_tasks _ k 0 m ∙ rw (lt-ltb k tasks l) (sym (record_by k)))))

  -- the order by falling keys, and the types along it
  pub in_order : {keys order chosen : List ℕ} → keys ≡ start_keys b.starts → order ≡ order_by keys tasks
      → chosen ≡ along b.types order tasks → constraint_of tasks order chosen ≡ constraint_by (by_task tasks b)
  unfolding constraint_by
  in_order {keys} {order} e f g = ap₂ (constraint_of tasks) (o ∙ order_is) (g ∙ ap (λ (x : List ℕ). along b.types x tasks) o ∙ types_are)
    where
      o : order ≡ order_by (start_keys b.starts) tasks
      o = f ∙ ap (λ (x : List ℕ). order_by x tasks) e
