-- The run, come to a position: what its arrays hold, what the next position adds, and what they hold at the end. Assumes nothing.
use mathlib.Core.Path.{◌≡◌, refl, sym, ap, ap₂, ◌∙◌}
use mathlib.Core.Bool.{true, cond}
use mathlib.Core.Logic.{⊎_elim}
use mathlib.Core.List.{List}
use Prim.Native.Nat.{ℕ, suc, ◌+◌, ◌*◌, ◌≤◌, ◌<◌, max, zero-le}
use native.Mathlib.Nat.{le_trans, le_of_eq, lt_of_lt_of_le, lt_trans, le-max_left, le-max_right, max-le}
use native.Mathlib.Numerals.{add-one}
use native.Mathlib.Omega.{arith}
use borrow.Author.Tests.{ltb-true}
use lib.Bits.{bit_or}
use lib.Dec.{ltb}
use lib.ListN.{length, get_or, set, replicate, length-set, length-replicate, get_or-replicate}
use lib.Seq.{get_or-set_same, get_or-set_other}
use Rattle.task_set.specs.Bounded.{tabulate}
use Rattle.task_set.specs.Sets.{width, has, without}
use Rattle.task_set.proofs.Truth.{by_test, clash, and_left, or_cases}
use Rattle.task_set.proofs.Members.{has_none, has_or, has_without}
use Rattle.task_set.proofs.Tables.{tabulate_cong}
use Rattle.plan.specs.declared.Plan.{Plan}
use Rattle.plan.specs.declared.Constraint.{Constraint}
use Rattle.plan.specs.Rules.{most_types, most_units, most_tasks, longest_time, last_instant, predecessors_of, release_of}
use Rattle.plan.proofs.Accepted.{Accepted}
use Rattle.dispatch_theory.proofs.Greedy.{ends, after}
use Rattle.dispatch_theory.proofs.Units.{Booked, booked_none, booked_more, start_is, open_now}
use Rattle.dispatch_theory.specs.Sums.{greatest}
use Rattle.dispatch_theory.proofs.Sums.{greatest_lub, greatest_le}
use Rattle.runs.specs.Running.{or_zero, horizon, ended}
use Rattle.runs.proofs.Positions.{task_at, type_at, position, position_entry, horizon_short}
use Rattle.runs.proofs.Orders.{order_of, Lasting, durations, starts_of, start_of, finish_of, greedy}
use Rattle.runs.proofs.Closed.{timed_closed}
use Rattle.runs.proofs.Response.{ends_by, ended_start, ended_finish, response_ends}
use Rattle.simulation_run.specs.Ran.{ran}
use Rattle.simulation_waits.specs.Waits.{latest_of, unit_index, free_from, FreeFirst}
use Rattle.simulation_run.proofs.ByTask.{tabled, tabled_none, tabled_more, tabled_at, tabled_all}

-- the loop has come to position k: the positions before it have started and finish, and hold their units;
-- the tasks of `past` have finished by the last start
pub record Reached (p : Plan) (c : Constraint) (d : ℕ → ℕ) (k last past response : ℕ)
    (starts finishes free : List ℕ) : Type 0 where
  pub within : k ≤ p.tasks
  pub last_is : last ≡ after (starts_of p c d) k
  pub past_over : (j : ℕ) → j < p.tasks → has past (task_at c j) ≡ true
      → ends (starts_of p c d) (durations c d) j ≤ after (starts_of p c d) k
  pub response_is : response ≡ greatest k (ends (starts_of p c d) (durations c d))
  pub starts_are : starts ≡ tabled c k (start_of p c d)
  pub finishes_are : finishes ≡ tabled c k (finish_of p c d)
  pub room : length free ≡ most_types * most_units
  pub booked : Booked (order_of p c) p.types (ends (starts_of p c d) (durations c d)) k (after (starts_of p c d) k)
      (free_from free)

module _ {p : Plan} {c : Constraint} (a : Accepted p c) (d : ℕ → ℕ) (positive : Lasting p d) where
  -- the starts and the times by position
  abbrev S : ℕ → ℕ
  S = starts_of p c d

  abbrev D : ℕ → ℕ
  D = durations c d

  -- the units of a type of the plan have their places
  unit_low : (ty u : ℕ) → ty < p.types → u < get_or p.units ty 0 → unit_index ty u < most_types * most_units
  unit_low ty u l m = omega (arith, a.few_types, a.few_units ty l)

  pub reached_none : Reached p c d 0 0 0 0 (replicate most_tasks 0) (replicate most_tasks 0) (replicate (most_types * most_units) 0)
  unfolding after greatest
  reached_none =
      record {
        within = zero-le;
        last_is = refl;
        past_over = λ j l h. absurd (clash h (has_none (task_at c j)));
        response_is = refl;
        starts_are = tabled_none c (start_of p c d);
        finishes_are = tabled_none c (finish_of p c d);
        room = length-replicate {A = ℕ} (most_types * most_units) 0;
        booked = booked_none (order_of p c) p.types (ends S D) _
            (λ ty u l m. get_or-replicate (most_types * most_units) (unit_index ty u) 0 0 (unit_low ty u l m));
      }

  -- ---- the next position

  module _ {k last past response : ℕ} {starts finishes free : List ℕ}
      (r : Reached p c d k last past response starts finishes free) (low : k < p.tasks)
      {index : ℕ} (f : FreeFirst free (type_at c k) (get_or p.units (type_at c k) 0) index) where
    abbrev t : ℕ
    t = task_at c k

    abbrev ty : ℕ
    ty = type_at c k

    -- the positions before have their finishes
    finish_known : (j : ℕ) → j < k → get_or finishes (task_at c j) 0 ≡ ends S D j
    finish_known j l =
        ap (λ (xs : List ℕ). get_or xs (task_at c j) 0) r.finishes_are ∙ tabled_at a (finish_of p c d) k j l r.within
        ∙ ap (λ (i : ℕ). S i + D j) (position_entry a j (lt_trans l low))

    -- its predecessors, and those that are looked at
    abbrev needed : ℕ
    needed = predecessors_of p.predecessors t

    abbrev of_set : ℕ → ℕ
    of_set u = cond (has (without needed past) u) (get_or finishes u 0) 0

    -- from this instant on neither its predecessors nor its own not-before instant make it wait
    abbrev earliest : ℕ
    earliest = max (latest_of finishes (without needed past)) (release_of p.releases t)

    -- a predecessor stands before, and has finished by the start
    over : (j : ℕ) → j < p.tasks → has needed (task_at c j) ≡ true → ends S D j ≤ S k
    over j m h =
        let i = a.earlier k (task_at c j) low (lt_of_lt_of_le (a.task j m) a.few_tasks) h in
        (open_now (order_of p c) (greedy a d) k low).waited j
        (omega (arith, i.1, a.once i.0 j (lt_trans i.1 low) m i.2)) h

    -- a predecessor that is not looked at is past
    waited : (j : ℕ) → j < k → has needed (task_at c j) ≡ true
        → ends S D j ≤ max (after S k) earliest
    unfolding latest_of
    waited j l h =
        let m : j < p.tasks = lt_trans l low in
        by_test (has past u) (λ g. le_trans (r.past_over j m g) (le-max_left _ _))
        (λ g. let q : of_set u ≡ ends S D j = rw (has_without needed past u, h, g) (finish_known j l) in
        le_trans (omega (arith, q, greatest_le width of_set u (lt_of_lt_of_le (a.task j m) a.few_tasks)))
        (le_trans (le-max_left _ _) (le-max_right _ _)))
      where
        u : ℕ
        u = task_at c j

    -- what is looked at has finished by the start
    looked_over : latest_of finishes (without needed past) ≤ S k
    unfolding latest_of
    looked_over = greatest_lub width of_set (S k) (λ u l. by_test (has (without needed past) u) (member u l) (λ q. rw q zero-le))
      where
        member : (u : ℕ) → u < width → has (without needed past) u ≡ true → of_set u ≤ S k
        member u l q =
            let h = and_left _ _ (sym (has_without needed past u) ∙ q) in
            let i = a.earlier k u low l h in
            rw q (le_trans (le_of_eq (ap (λ (y : ℕ). get_or finishes y 0) (sym i.2) ∙ finish_known i.0 i.1))
            (over i.0 (lt_trans i.1 low) (ap (has needed) i.2 ∙ h)))

    -- and its instant has come
    come : earliest ≤ S k
    come = max-le looked_over (open_now (order_of p c) (greedy a d) k low).released

    -- the latest of all this is the start
    pub next_start : {s looked w release first behind start : ℕ} → s ≡ needed → looked ≡ without s past
        → w ≡ latest_of finishes looked → release ≡ release_of p.releases t → first ≡ max w release → behind ≡ max last first
        → start ≡ max behind (get_or free index 0) → start ≡ S k
    next_start ep el ew er ef eb es =
        rw (es, eb, ef, ew, er, el, ep, r.last_is, f.index_is)
        (start_is (order_of p c) (greedy a d) k low p.types (a.type k low) (free_from free) r.booked f.unit f.low
        f.least
        _ waited (le_trans (le-max_right _ _) (le-max_right _ _)) come)

    -- the unit has its place
    index_low : index < length free
    index_low = rw (f.index_is, r.room) (unit_low ty f.unit (a.type k low) f.low)

    -- another unit keeps its instant
    kept : (finish x v : ℕ) → x < p.types → v < get_or p.units x 0 → (x ≡ ty → v ≡ f.unit → ⊥)
        → free_from (set free index finish) x v ≡ free_from free x v
    kept finish x v l m h =
        get_or-set_other free index (unit_index x v) finish 0 (λ q. h (alike q) (omega (arith, alike q, f.index_is)))
      where
        alike : unit_index x v ≡ index → x ≡ ty
        alike q = omega (arith, q, f.index_is, f.low, a.few_units x l, a.few_units ty (a.type k low))

    pub reached_more : {s start time later : ℕ} → s ≡ needed → start ≡ S k → time ≡ d t → later ≡ max response (start + time)
        → Reached p c d (k + 1) start (bit_or past s) later (set starts t start) (set finishes t (start + time))
        (set free index (start + time))
    unfolding after greatest
    reached_more {s} {start} {time} {later} ep es et el =
        rw (add-one k)
        (record {
          within = low;
          last_is = es;
          past_over = past_here;
          response_is = el ∙ ap₂ max r.response_is finish_is;
          starts_are = ap₂ (λ (xs : List ℕ) (y : ℕ). set xs t y) r.starts_are (es ∙ sym (ap S here))
              ∙ tabled_more a (start_of p c d) k low;
          finishes_are =
              ap₂ (λ (xs : List ℕ) (y : ℕ). set xs t y) r.finishes_are (finish_is ∙ ap (λ (i : ℕ). S i + d t) (sym here))
              ∙ tabled_more a (finish_of p c d) k low;
          room = length-set free index (start + time) ∙ r.room;
          booked = booked_here;
        })
      where
        here : position c t ≡ k
        here = position_entry a k low

        finish_is : start + time ≡ ends S D k
        finish_is = ap₂ ◌+◌ es et

        past_here : (j : ℕ) → j < p.tasks → has (bit_or past s) (task_at c j) ≡ true → ends S D j ≤ S k
        past_here j m h =
            ⊎_elim (λ g. le_trans (r.past_over j m g) ((greedy a d).order k low)) (λ g. over j m (rw ep at g))
            (or_cases _ _ (sym (has_or (task_at c j) past s) ∙ h))

        booked_here : Booked (order_of p c) p.types (ends S D) (suc k) (after S (suc k))
            (free_from (set free index (start + time)))
        booked_here =
            booked_more (order_of p c) (greedy a d) k low p.types (a.type k low) (free_from free) r.booked f.unit
            f.low f.least
            (free_from (set free index (start + time)))
            (ap (λ (i : ℕ). get_or (set free index (start + time)) i 0) (sym f.index_is)
            ∙ get_or-set_same free index (start + time) 0 index_low ∙ finish_is)
            (kept (start + time))

  -- ---- the end

  -- no finish is later than the last instant
  pub finish_short : ((t : ℕ) → t < p.tasks → d t ≤ longest_time) → (k : ℕ) → k < p.tasks → S k + D k ≤ last_instant
  finish_short short k l = le_trans (ends_by a d positive k l) (horizon_short a d short)

  -- what the notes of the run have when it is over; a task that is not of the plan has none
  ended_starts : (t : ℕ) → cond (ltb t p.tasks) (start_of p c d t) 0 ≡ or_zero ((ended p c d).start t)
  unfolding ended
  ended_starts t =
      by_test (ltb t p.tasks) (λ e. rw (e, ended_start a d positive t (ltb-true t p.tasks e)) refl)
      (λ e. rw (timed_closed a d positive (horizon p d), e) refl)

  ended_finishes : (t : ℕ) → cond (ltb t p.tasks) (finish_of p c d t) 0 ≡ or_zero ((ended p c d).finish t)
  unfolding ended
  ended_finishes t =
      by_test (ltb t p.tasks) (λ e. rw (e, ended_finish a d positive t (ltb-true t p.tasks e)) refl)
      (λ e. rw (timed_closed a d positive (horizon p d), e) refl)

  pub reached_end : {k last past response : ℕ} {starts finishes free : List ℕ}
      → Reached p c d k last past response starts finishes free → p.tasks ≤ k
      → record { number = 0; place = 0; response = response; starts = starts; finishes = finishes } ≡ ran p c d
  unfolding ran
  reached_end {k} r l =
      rw (r.response_is ∙ ap (λ (n : ℕ). greatest n (ends S D)) all ∙ sym (response_ends a d positive))
      (rw (r.starts_are ∙ filled (start_of p c d) (λ t. or_zero ((ended p c d).start t)) ended_starts)
      (rw (r.finishes_are ∙ filled (finish_of p c d) (λ t. or_zero ((ended p c d).finish t)) ended_finishes) refl))
    where
      all : k ≡ p.tasks
      all = omega (arith, r.within)

      filled : (f g : ℕ → ℕ) → ((t : ℕ) → cond (ltb t p.tasks) (f t) 0 ≡ g t) → tabled c k f ≡ tabulate most_tasks g
      filled f g h = ap (λ (n : ℕ). tabled c n f) all ∙ tabled_all a f ∙ tabulate_cong most_tasks _ g (λ t m. h t)
