-- The notes of a timed run in closed form: a task starts at its greedy start and finishes its time later. Assumes nothing.
use mathlib.Core.Path.{◌≡◌, refl, sym, ap, ap₂, ◌∙◌, subst, fun_ext}
use mathlib.Core.Bool.{Bool, true, false, cond, ◌&&◌, ◌||◌, or-true, or-false, and-false, and_comm}
use mathlib.Core.List.{List}
use mathlib.Core.Option.{Option, none, some}
use Prim.Native.Nat.{ℕ, zero, suc, ◌+◌, ◌≤◌, ◌<◌, zero-le}
use native.Mathlib.Nat.{le_trans, le_of_eq, lt_trans, le_of_lt, lt_of_lt_of_le, le_refl, lt-suc_self, not-suc-le-zero}
use native.Mathlib.Omega.{arith}
use borrow.Author.Tests.{leb-true, leb-false, le-leb, lt-leb, ltb-true, ltb-false, lt-ltb, le-ltb, eq-eqb, ne_eqb, eqb-true, eqb-false}
use lib.Dec.{eqb, leb, ltb, leb-suc-suc}
use lib.ListN.{get_or, drop}
use Rattle.task_set.specs.Bounded.{all, count, implies}
use Rattle.task_set.specs.Sets.{width, has}
use Rattle.task_set.proofs.Truth.{by_test, same, implies_intro, implies_elim, not_leb}
use Rattle.task_set.proofs.Bounded.{below_suc, other_below, all_intro, all_elim, count_cong}
use Rattle.plan.specs.declared.Plan.{Plan}
use Rattle.plan.specs.declared.Constraint.{Constraint}
use Rattle.plan.specs.Rules.{predecessors_of, release_of}
use Rattle.plan.proofs.Accepted.{Accepted}
use Rattle.dispatch_theory.proofs.Greedy.{ends, ordered, after_le}
use Rattle.dispatch_theory.proofs.Rules.{holds, rule_gate}
use Rattle.dispatch_theory.proofs.Units.{open_now}
use Rattle.dispatch_theory.proofs.Reorder.{count_upto}
use Rattle.runs.specs.Running.{Entry, entries, type_of, Notes, given, has_started, has_finished, is_running, cleared, released, busy, may_start, begin, dispatch, advance, step, blank, opening, time_up, timed}
use Rattle.runs.proofs.Positions.{task_at, position, position_entry, position_low, entry_position, type_entry, count_by_position}
use Rattle.runs.proofs.Orders.{order_of, Lasting, durations, starts_of, start_of, greedy, entry_of, entries_from, entries_end}

-- x once it has come
abbrev pub once : Bool → ℕ → Option ℕ
once b x = cond b (some x) none

pub given_once : (b : Bool) (x : ℕ) → given (once b x) ≡ b
given_once true x = refl
given_once false x = refl

once_some : (b : Bool) (x s : ℕ) → once b x ≡ some s → x ≡ s
once_some true x s e = cc
once_some false x s e = let z : ◌≡◌ {A = ℕ} 0 1 = ap (λ (o : Option ℕ). cond (given o) 1 0) e in absurd (omega arith)

-- notes are equal where their parts are
pub notes_ext : {n m : Notes} → n.instant ≡ m.instant → ((t : ℕ) → n.start t ≡ m.start t)
    → ((t : ℕ) → n.finish t ≡ m.finish t) → n ≡ m
notes_ext {n} {m} e f g =
    ap (λ (i : ℕ). record { instant = i; start = n.start; finish = n.finish }) e
    ∙ ap₂ (λ (s : ℕ → Option ℕ) (r : ℕ → Option ℕ). record { instant = m.instant; start = s; finish = r }) (fun_ext f)
    (fun_ext g)

module _ {p : Plan} {c : Constraint} (a : Accepted p c) (d : ℕ → ℕ) (positive : Lasting p d) where
  -- the greedy start by position, and by task
  abbrev S : ℕ → ℕ
  S = starts_of p c d

  abbrev at : ℕ → ℕ
  at = start_of p c d

  -- the finish by position
  abbrev F : ℕ → ℕ
  F = ends S (durations c d)

  -- task t of the plan, and the test
  abbrev ours : ℕ → Bool → Bool
  ours t b = ltb t p.tasks && b

  -- the closed form at instant i
  abbrev pub closed : ℕ → Notes
  closed i =
      record {
        instant = i;
        start = λ t. once (ours t (leb (at t) i)) (at t);
        finish = λ t. once (ours t (leb (at t + d t) i)) (at t + d t);
      }

  -- in the walk of instant i, come to position k: earlier starts, and those of this instant before k
  abbrev begun : ℕ → ℕ → ℕ → Bool
  begun i k t = ltb (at t) i || (leb (at t) i && ltb (position c t) k)

  abbrev walked : ℕ → ℕ → Notes
  walked i k = record { instant = i; start = λ t. once (ours t (begun i k t)) (at t); finish = (closed i).finish }

  -- a fact of each task of the plan
  ours_cong : (x y : ℕ → Bool) → ((t : ℕ) → t < p.tasks → x t ≡ y t) → (t : ℕ) → ours t (x t) ≡ ours t (y t)
  ours_cong x y h t =
      by_test (ltb t p.tasks) (λ e. ap (ours t) (h t (ltb-true t p.tasks e))) (λ e. rw e refl)

  started_entry : (i k j : ℕ) → j < p.tasks → has_started (walked i k) (task_at c j) ≡ ltb (S j) i || (leb (S j) i && ltb j k)
  started_entry i k j l =
      given_once (ours t (begun i k t)) (at t) ∙ rw (lt-ltb t p.tasks (a.task j l), position_entry a j l) refl
    where
      t : ℕ
      t = task_at c j

  finished_entry : (i k j : ℕ) → j < p.tasks → has_finished (walked i k) (task_at c j) ≡ leb (F j) i
  finished_entry i k j l =
      given_once (ours t (leb (at t + d t) i)) (at t + d t) ∙ rw (lt-ltb t p.tasks (a.task j l), position_entry a j l) refl
    where
      t : ℕ
      t = task_at c j

  -- ---- a task of the order may start exactly if the gate of its position is open

  module _ (i k : ℕ) (low : k < p.tasks) (past : (j : ℕ) → j < k → S j ≤ i) (due : i ≤ S k) where
    abbrev waits : ℕ → ℕ → Bool
    waits = (order_of p c).waits

    abbrev type : ℕ → ℕ
    type = (order_of p c).type

    cleared_entry : cleared p (walked i k) (task_at c k) ≡ all k (λ j. implies (waits k j) (leb (F j) i))
    unfolding cleared
    cleared_entry = same (all width waited) (all k met) forth back
      where
        waited : ℕ → Bool
        waited u = implies (has (predecessors_of p.predecessors (task_at c k)) u) (has_finished (walked i k) u)

        met : ℕ → Bool
        met j = implies (waits k j) (leb (F j) i)

        forth : all width waited ≡ true → all k met ≡ true
        forth e =
            all_intro k met
            (λ j l. let m : j < p.tasks = lt_trans l low in
            rw (← finished_entry i k j m) (all_elim width waited e (task_at c j) (lt_of_lt_of_le (a.task j m) a.few_tasks)))

        back : all k met ≡ true → all width waited ≡ true
        back e =
            all_intro width waited
            (λ u l. implies_intro (has (predecessors_of p.predecessors (task_at c k)) u)
            (λ h. let r = a.earlier k u low l h in
            let w : waits k r.0 ≡ true = ap (has (predecessors_of p.predecessors (task_at c k))) r.2 ∙ h in
            subst (λ (x : ℕ). has_finished (walked i k) x ≡ true) r.2
            (finished_entry i k r.0 (lt_trans r.1 low)
            ∙ implies_elim (waits k r.0) (leb (F r.0) i) (all_elim k met e r.0 r.1) w)))

    -- a position that holds a unit in the walk: one before k that is not over
    taken_entry : (j : ℕ) → j < k → is_running (walked i k) (task_at c j) ≡ ltb i (F j)
    taken_entry j l =
        let m : j < p.tasks = lt_trans l low in
        rw (started_entry i k j m, finished_entry i k j m, le-leb (S j) i (past j l), lt-ltb j k l, or-true (ltb (S j) i))
        (not_leb (F j) i)

    -- a position from k on has not started
    late : (j : ℕ) → k ≤ j → j < p.tasks → i ≤ S j
    late j l m = le_trans due (ordered (greedy a d) j k l m)

    not_started : (j : ℕ) → k ≤ j → j < p.tasks → has_started (walked i k) (task_at c j) ≡ false
    not_started j l m = rw (started_entry i k j m, le-ltb (S j) i (late j l m), le-ltb j k l) (and-false (leb (S j) i))

    busy_entry : (y : ℕ) → busy c (walked i k) y ≡ count k (holds (order_of p c) F i y)
    unfolding busy
    busy_entry y =
        count_upto p.tasks width uses a.few_tasks (λ t l m. rw (le-ltb t p.tasks l) refl)
        ∙ sym (count_by_position a uses)
        ∙ count_upto k p.tasks (λ j. uses (task_at c j)) (le_of_lt low) (λ j l m. rw (not_started j l m) refl)
        ∙ count_cong k (λ j. uses (task_at c j)) (holds (order_of p c) F i y)
        (λ j l. ap₂ ◌&&◌ (taken_entry j l) (ap (λ (x : ℕ). eqb x y) (type_entry a j (lt_trans l low)))
        ∙ and_comm (ltb i (F j)) (eqb (type j) y))
      where
        uses : ℕ → Bool
        uses t = is_running (walked i k) t && eqb (type_of c t) y

    gate_entry : may_start p c (walked i k) (entry_of c k) ≡ rule_gate (order_of p c) F k i
    unfolding may_start released rule_gate
    gate_entry =
        ap₂ (λ (x : Bool) (y : ℕ). x && (leb (release_of p.releases (task_at c k)) i && ltb y (get_or p.units (type k) 0)))
        cleared_entry (busy_entry (type k))

    may_entry : may_start p c (walked i k) (entry_of c k) ≡ leb (S k) i
    may_entry = gate_entry ∙ by_test (leb (S k) i) open_now shut_now
      where
        may : ℕ → Bool
        may s = rule_gate (order_of p c) F k s

        open_now : leb (S k) i ≡ true → may i ≡ leb (S k) i
        open_now e =
            let q : S k ≡ i = omega (arith, leb-true (S k) i e) in rw e
            (subst (λ (x : ℕ). may x ≡ true) q ((greedy a d).open_at k low))

        shut_now : leb (S k) i ≡ false → may i ≡ leb (S k) i
        shut_now e = rw e ((greedy a d).closed k i low (after_le S k i past) (leb-false (S k) i e))

  -- ---- the walk of an instant

  -- the positions passed have started, and those from k on have not come before
  stops : (i k : ℕ) → ((j : ℕ) → j < k → S j ≤ i) → ((j : ℕ) → k ≤ j → j < p.tasks → i < S j) → walked i k ≡ closed i
  stops i k past later =
      notes_ext refl (λ t. ap (λ (b : Bool). once b (at t)) (ours_cong (begun i k) (λ t. leb (at t) i) each t)) (λ t. refl)
    where
      each : (t : ℕ) → t < p.tasks → begun i k t ≡ leb (at t) i
      each t l =
          by_test (ltb (position c t) k)
          (λ e. let m : at t ≤ i = past (position c t) (ltb-true (position c t) k e) in rw (e, le-leb (at t) i m)
          (or-true (ltb (at t) i)))
          (λ e. let m : i < at t = later (position c t) (ltb-false (position c t) k e) (position_low a t l) in
          rw (lt-leb (at t) i m, le-ltb (at t) i (le_of_lt m)) refl)

  -- one position further, where the tests of the tasks at other positions stay
  further : (i k : ℕ) (t : ℕ) → (t < p.tasks → position c t ≡ k → ⊥) → ours t (begun i k t) ≡ ours t (begun i (suc k) t)
  further i k t f =
      by_test (ltb t p.tasks)
      (λ e. ap (λ (b : Bool). ours t (ltb (at t) i || (leb (at t) i && b)))
      (other_below (position c t) k (f (ltb-true t p.tasks e))))
      (λ e. rw e refl)

  -- a position that started before is passed
  passes : (i k : ℕ) → S k < i → walked i k ≡ walked i (suc k)
  passes i k l = notes_ext refl (λ t. ap (λ (b : Bool). once b (at t)) (each t)) (λ t. refl)
    where
      each : (t : ℕ) → ours t (begun i k t) ≡ ours t (begun i (suc k) t)
      each t =
          by_test (eqb (position c t) k) (λ e. rw (eqb-true (position c t) k e, lt-ltb (S k) i l) refl)
          (λ e. further i k t (λ m. eqb-false (position c t) k e))

  -- a position whose start has come begins
  begins : (i k : ℕ) → k < p.tasks → S k ≡ i → begin (walked i k) (task_at c k) ≡ walked i (suc k)
  begins i k low e = notes_ext refl (λ t. by_test (eqb (task_at c k) t) (here t) (elsewhere t)) (λ t. refl)
    where
      goal : ℕ → Type 0
      goal t = cond (eqb (task_at c k) t) (some i) ((walked i k).start t) ≡ (walked i (suc k)).start t

      here : (t : ℕ) → eqb (task_at c k) t ≡ true → goal t
      here t f =
          subst goal (eqb-true (task_at c k) t f)
          (rw (eq-eqb (task_at c k) (task_at c k) refl, position_entry a k low)
          (rw (lt-ltb (task_at c k) p.tasks (a.task k low), e, le-leb i i (le_refl i))
          (rw (lt-ltb k (suc k) (lt-suc_self k), or-true (ltb i i)) refl)))

      elsewhere : (t : ℕ) → eqb (task_at c k) t ≡ false → goal t
      elsewhere t f =
          rw f (ap (λ (b : Bool). once b (at t))
          (further i k t (λ m q. eqb-false (task_at c k) t f (ap (task_at c) (sym q) ∙ entry_position a t m))))

  -- the walk from position k on
  walk : (m i k : ℕ) → k + m ≡ p.tasks → ((j : ℕ) → j < k → S j ≤ i) → dispatch p c (drop k (entries c)) (walked i k) ≡ closed i
  unfolding dispatch
  walk zero i k e past =
      let q : k ≡ c.len = omega (arith, a.whole) in
      ap (λ (es : List Entry). dispatch p c es (walked i k)) (ap (λ (x : ℕ). drop x (entries c)) q ∙ entries_end c)
      ∙ stops i k past (λ j l m. absurd (omega arith))
  walk (suc m) i k e past =
      ap (λ (es : List Entry). dispatch p c es (walked i k)) (entries_from c k (omega (arith, a.whole)))
      ∙ go (walk m i)
    where
      low : k < p.tasks
      low = omega arith

      rest : List Entry
      rest = drop (suc k) (entries c)

      goal : Type 0
      goal =
          cond (has_started (walked i k) (task_at c k)) (dispatch p c rest (walked i k))
          (cond (may_start p c (walked i k) (entry_of c k)) (dispatch p c rest (begin (walked i k) (task_at c k))) (walked i k))
          ≡ closed i

      More : Type 0
      More = (k : ℕ) → k + m ≡ p.tasks → ((j : ℕ) → j < k → S j ≤ i) → dispatch p c (drop k (entries c)) (walked i k) ≡ closed i

      started : has_started (walked i k) (task_at c k) ≡ ltb (S k) i
      started = started_entry i k k low ∙ rw (le-ltb k k (le_refl k), and-false (leb (S k) i)) (or-false (ltb (S k) i))

      next : More → S k ≤ i → dispatch p c rest (walked i (suc k)) ≡ closed i
      next more l = more (suc k) (omega arith) (below_suc (λ j. S j ≤ i) k past l)

      earlier : More → ltb (S k) i ≡ true → goal
      earlier more f =
          rw (started, f) (ap (dispatch p c rest) (passes i k (ltb-true (S k) i f)) ∙ next more (le_of_lt (ltb-true (S k) i f)))

      now : More → ltb (S k) i ≡ false → leb (S k) i ≡ true → goal
      now more f g =
          rw (started, f, may_entry i k low past (ltb-false (S k) i f), g)
          (ap (dispatch p c rest) (begins i k low (omega (arith, ltb-false (S k) i f, leb-true (S k) i g)))
          ∙ next more (leb-true (S k) i g))

      later : ltb (S k) i ≡ false → leb (S k) i ≡ false → goal
      later f g =
          rw (started, f, may_entry i k low past (ltb-false (S k) i f), g)
          (stops i k past (λ j l m. lt_of_lt_of_le (leb-false (S k) i g) (ordered (greedy a d) j k l m)))

      go : More → goal
      go more = by_test (ltb (S k) i) (earlier more) (λ f. by_test (leb (S k) i) (now more f) (later f))

  -- no task starts before its instant: at its start its gate is open
  pub start_released_lem : (t : ℕ) → t < p.tasks → release_of p.releases t ≤ starts_of p c d (position c t)
  start_released_lem t l =
      le_trans (le_of_eq (ap (release_of p.releases) (sym (entry_position a t l))))
      (open_now (order_of p c) (greedy a d) (position c t) (position_low a t l)).released

  -- ---- the run

  opened : blank ≡ walked 0 0
  opened = notes_ext refl starts_none ends_none
    where
      starts_none : (t : ℕ) → none ≡ (walked 0 0).start t
      starts_none t =
          rw (le-ltb (at t) 0 zero-le, le-ltb (position c t) 0 zero-le, and-false (leb (at t) 0))
          (rw (and-false (ltb t p.tasks)) refl)

      ends_none : (t : ℕ) → none ≡ (walked 0 0).finish t
      ends_none t =
          by_test (ltb t p.tasks) (λ e.
          rw (lt-leb (at t + d t) 0 (omega (arith, positive t (ltb-true t p.tasks e))), and-false (ltb t p.tasks)) refl)
          (λ e. rw e refl)

  advanced : (i : ℕ) → advance (time_up d (closed i)) (closed i) ≡ walked (suc i) 0
  advanced i = notes_ext refl starts_kept (λ t. by_test (ltb t p.tasks) (ends_noted t) (λ e. rw e refl))
    where
      starts_kept : (t : ℕ) → (closed i).start t ≡ (walked (suc i) 0).start t
      starts_kept t =
          rw (leb-suc-suc (at t) i, le-ltb (position c t) 0 zero-le, and-false (leb (at t) (suc i)), or-false (leb (at t) i)) refl

      ends_noted : (t : ℕ) → ltb t p.tasks ≡ true → (advance (time_up d (closed i)) (closed i)).finish t
          ≡ (walked (suc i) 0).finish t
      ends_noted t e = by_test (leb f' i) past (λ f. by_test (leb f' (suc i)) (now f) (later f))
        where
          f' : ℕ
          f' = at t + d t

          goal : Type 0
          goal = (advance (time_up d (closed i)) (closed i)).finish t ≡ (walked (suc i) 0).finish t

          long : 1 ≤ d t
          long = positive t (ltb-true t p.tasks e)

          past : leb f' i ≡ true → goal
          past f =
              rw (e, f, le-leb f' (suc i) (omega (arith, leb-true f' i f)), and-false (given (once (leb (at t) i) (at t)))) refl

          now : leb f' i ≡ false → leb f' (suc i) ≡ true → goal
          now f g =
              let q : f' ≡ suc i = omega (arith, leb-false f' i f, leb-true f' (suc i) g) in
              rw (e, f, g, le-leb (at t) i (omega (arith, q, long)), eq-eqb f' (suc i) q, q) refl

          later : leb f' i ≡ false → leb f' (suc i) ≡ false → goal
          later f g =
              by_test (leb (at t) i) (λ h. rw (e, f, g, h, ne_eqb f' (suc i) (λ q. omega (arith, q, leb-false f' (suc i) g)))
              refl)
              (λ h. rw (e, f, g, h) refl)

  pub timed_closed : (i : ℕ) → timed p c d i ≡ closed i
  unfolding timed opening step
  timed_closed zero = ap (dispatch p c (entries c)) opened ∙ walk p.tasks 0 0 (omega arith) (λ j l. absurd (not-suc-le-zero l))
  timed_closed (suc i) =
      ap (λ (n : Notes). dispatch p c (entries c) (advance (time_up d n) n)) (timed_closed i)
      ∙ ap (dispatch p c (entries c)) (advanced i)
      ∙ walk p.tasks (suc i) 0 (omega arith) (λ j l. absurd (not-suc-le-zero l))

  -- when a task has started and finished
  pub started_timed : (i t : ℕ) → has_started (timed p c d i) t ≡ ltb t p.tasks && leb (starts_of p c d (position c t)) i
  started_timed i t = ap (λ (n : Notes). has_started n t) (timed_closed i) ∙ given_once (ours t (leb (at t) i)) (at t)

  pub finished_timed : (i t : ℕ) → has_finished (timed p c d i) t ≡ ltb t p.tasks && leb (starts_of p c d (position c t) + d t) i
  finished_timed i t =
      ap (λ (n : Notes). has_finished n t) (timed_closed i) ∙ given_once (ours t (leb (at t + d t) i)) (at t + d t)

  -- a task with start s finishes its time later
  pub start_finish : (i t s : ℕ) → t < p.tasks → (timed p c d i).start t ≡ some s
      → (timed p c d i).finish t ≡ once (leb (s + d t) i) (s + d t)
  start_finish i t s l e =
      ap (λ (n : Notes). n.finish t) (timed_closed i)
      ∙ rw (lt-ltb t p.tasks l)
      (rw (once_some (ours t (leb (at t) i)) (at t) s (sym (ap (λ (n : Notes). n.start t) (timed_closed i)) ∙ e)) refl)

  -- and it does not start before its instant
  pub start_not_before : (i t s : ℕ) → t < p.tasks → (timed p c d i).start t ≡ some s → release_of p.releases t ≤ s
  start_not_before i t s l e =
      omega (
        arith,
        start_released_lem t l,
        once_some (ours t (leb (at t) i)) (at t) s (sym (ap (λ (n : Notes). n.start t) (timed_closed i)) ∙ e),
      )

  -- the task at a position starts at its greedy start
  pub timed_start : (i k : ℕ) → k < p.tasks → (timed p c d i).start (task_at c k) ≡ once (leb (S k) i) (S k)
  timed_start i k l = rw (timed_closed i, lt-ltb (task_at c k) p.tasks (a.task k l), position_entry a k l) refl
