-- The tasks of an order are placed one after the other. Assumes nothing.
use mathlib.Core.Path.{◌≡◌, refl, sym, ap, ◌∙◌}
use mathlib.Core.Bool.{true, cond}
use mathlib.Core.List.{List, [], ◌∷◌}
use Prim.Native.Nat.{ℕ, zero, suc, ◌+◌, ◌*◌, ◌≤◌, ◌<◌, zero-le}
use native.Mathlib.Nat.{le_trans, le_of_eq, le_of_suc-le, lt_of_lt_of_le, not-suc-le-zero, le-max_left, le-max_right, max-le}
use native.Mathlib.Omega.{arith}
use borrow.Author.Tests.{eqb-true, eqb-false}
use lib.Dec.{eqb}
use lib.ListN.{length, get_or, set, replicate, length-set, length-replicate}
use lib.Seq.{get_or-set_same, get_or-set_other}
use Rattle.task_set.specs.Sets.{width, has}
use Rattle.task_set.proofs.Truth.{by_test}
use Rattle.task_set.proofs.Bounded.{below_suc}
use Rattle.plan.specs.Rules.{most_tasks, longest_time, latest_release, time_of, predecessors_of, release_of}
use Rattle.dispatch_theory.proofs.Sums.{greatest_le, greatest_lub}
use Rattle.simulation.specs.Simulated.{latest_of}
use Rattle.proposal_theory.specs.Proposals.{most_slots, type_of, held_until, start_on, finish_on, unit_of, Bench, placed, bench_after}

pub record Long (b : Bench) : Type 0 where
  pub types : length b.types ≡ most_tasks
  pub starts : length b.starts ≡ most_tasks
  pub finishes : length b.finishes ≡ most_tasks
  pub free : length b.free ≡ most_slots

-- no instant of a list is later than b
abbrev pub Before : List ℕ → ℕ → Type 0
Before instants b = (i : ℕ) → get_or instants i 0 ≤ b

zeros : (n b : ℕ) → Before (replicate n 0) b
zeros zero b u = zero-le
zeros (suc n) b zero = zero-le
zeros (suc n) b (suc u) = zeros n b u

set_before : (xs : List ℕ) (i v b : ℕ) → Before xs b → v ≤ b → Before (set xs i v) b
set_before [] i v b h l u = h u
set_before (x ∷ xs) zero v b h l zero = l
set_before (x ∷ xs) zero v b h l (suc u) = h (suc u)
set_before (x ∷ xs) (suc i) v b h l zero = h 0
set_before (x ∷ xs) (suc i) v b h l (suc u) = set_before xs i v b (λ w. h (suc w)) l u

pub held_before : (predecessors releases finishes : List ℕ) (t b : ℕ) → Before finishes b → release_of releases t ≤ b
    → held_until predecessors releases finishes t ≤ b
unfolding held_until latest_of
held_before predecessors releases finishes t b h l =
    max-le (greatest_lub width _ b (λ u m. by_test (has (predecessors_of predecessors t) u) (λ e. rw e (h u)) (λ e. rw e zero-le))) l

module _ (units wcet predecessors releases : List ℕ) (order : ℕ → ℕ) where
  -- the bench before place n, what holds the task there, and the unit, the start and the finish that it gets
  abbrev pub bench : ℕ → Bench
  bench n = bench_after units wcet predecessors releases order n

  abbrev pub held : ℕ → ℕ
  held n = held_until predecessors releases (bench n).finishes (order n)

  abbrev pub unit : ℕ → ℕ
  unit n = unit_of units wcet (order n) (bench n).free (held n)

  abbrev pub start : ℕ → ℕ
  start n = start_on (bench n).free (held n) (unit n)

  abbrev pub finish : ℕ → ℕ
  finish n = finish_on wcet (order n) (bench n).free (held n) (unit n)

  long : (n : ℕ) → Long (bench n)
  unfolding bench_after placed
  long zero =
      record {
        types = length-replicate {A = ℕ} most_tasks 0;
        starts = length-replicate {A = ℕ} most_tasks 0;
        finishes = length-replicate {A = ℕ} most_tasks 0;
        free = length-replicate {A = ℕ} most_slots 0;
      }
  long (suc n) =
      record {
        types = length-set (bench n).types (order n) _ ∙ (long n).types;
        starts = length-set (bench n).starts (order n) _ ∙ (long n).starts;
        finishes = length-set (bench n).finishes (order n) _ ∙ (long n).finishes;
        free = length-set (bench n).free (unit n) _ ∙ (long n).free;
      }

  -- ---- instants stay small

  -- no instant is later than after the latest not-before instant and n longest times
  pub bench_before : (tasks : ℕ) → ((n k : ℕ) → n < tasks → time_of wcet (order n) k ≤ longest_time)
      → ((t : ℕ) → release_of releases t ≤ latest_release) → (n : ℕ) → n ≤ tasks
      → Before (bench n).starts (latest_release + n * longest_time) × Before (bench n).finishes (latest_release + n * longest_time)
      × Before (bench n).free (latest_release + n * longest_time)
  unfolding bench_after placed
  bench_before tasks short released zero l = (zeros most_tasks _, zeros most_tasks _, zeros most_slots _)
  bench_before tasks short released (suc n) l = go (bench_before tasks short released n (le_of_suc-le l))
    where
      b : ℕ
      b = latest_release + n * longest_time

      more : ℕ
      more = latest_release + suc n * longest_time

      go : Before (bench n).starts b × Before (bench n).finishes b × Before (bench n).free b
          → Before (set (bench n).starts (order n) (start n)) more × Before (set (bench n).finishes (order n) (finish n)) more
          × Before (set (bench n).free (unit n) (finish n)) more
      go h =
          let s : start n ≤ b = max-le (h.2 (unit n)) (held_before predecessors releases (bench n).finishes (order n) b h.1 (le_trans (released (order n)) (omega arith))) in
          let f : finish n ≤ more = omega (arith, s, short n (type_of (unit n)) l) in
          let w : b ≤ more = omega arith in (
            set_before (bench n).starts (order n) (start n) more (λ u. le_trans (h.0 u) w) (le_trans s w),
            set_before (bench n).finishes (order n) (finish n) more (λ u. le_trans (h.1 u) w) f,
            set_before (bench n).free (unit n) (finish n) more (λ u. le_trans (h.2 u) w) f,
          )

  -- ---- an order without repeats

  module _ (tasks : ℕ) (few : tasks ≤ most_tasks) (low : (k : ℕ) → k < tasks → order k < tasks)
      (once : (j k : ℕ) → j < tasks → k < tasks → order j ≡ order k → j ≡ k) where
    -- what is written for a task stays
    stays : (f : ℕ → List ℕ) (v : ℕ → ℕ) → ((n : ℕ) → f (suc n) ≡ set (f n) (order n) (v n)) → ((n : ℕ) → length (f n) ≡ most_tasks)
        → (n : ℕ) → n ≤ tasks → (i : ℕ) → i < n → get_or (f n) (order i) 0 ≡ v i
    stays f v next size zero l i m = absurd (not-suc-le-zero m)
    stays f v next size (suc n) l i m =
        ap (λ (xs : List ℕ). get_or xs (order i) 0) (next n)
        ∙ below_suc (λ i. get_or (set (f n) (order n) (v n)) (order i) 0 ≡ v i) n
        (λ i k. earlier i k (stays f v next size n (le_of_suc-le l) i k)) here i m
      where
        here : get_or (set (f n) (order n) (v n)) (order n) 0 ≡ v n
        here = get_or-set_same (f n) (order n) (v n) 0 (omega (arith, low n l, size n))

        earlier : (i : ℕ) → i < n → get_or (f n) (order i) 0 ≡ v i → get_or (set (f n) (order n) (v n)) (order i) 0 ≡ v i
        earlier i k h =
            get_or-set_other (f n) (order n) (order i) (v n) 0 (λ e. let q : i ≡ n = once i n (omega arith) l e in omega arith) ∙ h

    pub type_stays : (n : ℕ) → n ≤ tasks → (i : ℕ) → i < n → get_or (bench n).types (order i) 0 ≡ type_of (unit i)
    unfolding bench_after placed
    type_stays = stays (λ n. (bench n).types) (λ n. type_of (unit n)) (λ n. refl) (λ n. (long n).types)

    pub start_stays : (n : ℕ) → n ≤ tasks → (i : ℕ) → i < n → get_or (bench n).starts (order i) 0 ≡ start i
    unfolding bench_after placed
    start_stays = stays (λ n. (bench n).starts) start (λ n. refl) (λ n. (long n).starts)

    pub finish_stays : (n : ℕ) → n ≤ tasks → (i : ℕ) → i < n → get_or (bench n).finishes (order i) 0 ≡ finish i
    unfolding bench_after placed
    finish_stays = stays (λ n. (bench n).finishes) finish (λ n. refl) (λ n. (long n).finishes)

    -- a task starts after its predecessors that were placed before it, and not before its instant
    pub waited : (i j : ℕ) → i < j → j < tasks → has (predecessors_of predecessors (order j)) (order i) ≡ true → finish i ≤ start j
    unfolding held_until latest_of
    waited i j l m h =
        le_trans (le_of_eq (sym (finish_stays j (le_of_suc-le m) i l)))
        (le_trans
        (rw h at (greatest_le width (λ u. cond (has (predecessors_of predecessors (order j)) u) (get_or (bench j).finishes u 0) 0) (order i)
        (omega (arith, low i (omega arith), few))))
        (le_trans (le-max_left (latest_of (bench j).finishes (predecessors_of predecessors (order j))) (release_of releases (order j)))
        (le-max_right (get_or (bench j).free (unit j) 0) (held j))))

    pub released : (j : ℕ) → release_of releases (order j) ≤ start j
    unfolding held_until
    released j =
        le_trans (le-max_right (latest_of (bench j).finishes (predecessors_of predecessors (order j))) (release_of releases (order j)))
        (le-max_right (get_or (bench j).free (unit j) 0) (held j))

    module _ (unit_low : (k : ℕ) → k < tasks → unit k < most_slots) where
      -- a unit comes free after every task on it
      free_later : (n : ℕ) → n ≤ tasks → (i : ℕ) → i < n → finish i ≤ get_or (bench n).free (unit i) 0
      unfolding bench_after placed
      free_later zero l i m = absurd (not-suc-le-zero m)
      free_later (suc n) l i m =
          below_suc (λ i. finish i ≤ get_or (set (bench n).free (unit n) (finish n)) (unit i) 0) n
          (λ i k. earlier i (free_later n (le_of_suc-le l) i k)) (le_of_eq (sym here)) i m
        where
          here : get_or (set (bench n).free (unit n) (finish n)) (unit n) 0 ≡ finish n
          here = get_or-set_same (bench n).free (unit n) (finish n) 0 (lt_of_lt_of_le (unit_low n l) (le_of_eq (sym (long n).free)))

          on_it : get_or (bench n).free (unit n) 0 ≤ finish n
          on_it = omega (arith, le-max_left (get_or (bench n).free (unit n) 0) (held n))

          earlier : (i : ℕ) → finish i ≤ get_or (bench n).free (unit i) 0
              → finish i ≤ get_or (set (bench n).free (unit n) (finish n)) (unit i) 0
          earlier i h =
              by_test (eqb (unit i) (unit n))
              (λ e. let q : unit i ≡ unit n = eqb-true _ _ e in
              le_trans h
              (le_trans (le_of_eq (ap (λ (u : ℕ). get_or (bench n).free u 0) q))
              (le_trans on_it (le_of_eq (sym (ap (λ (u : ℕ). get_or (set (bench n).free (unit n) (finish n)) u 0) q ∙ here))))))
              (λ e. le_trans h (le_of_eq (sym (get_or-set_other (bench n).free (unit n) (unit i) (finish n) 0 (eqb-false _ _ e)))))

      -- two tasks on one unit: the later starts after the earlier
      pub apart : (i j : ℕ) → i < j → j < tasks → unit i ≡ unit j → finish i ≤ start j
      apart i j l m e =
          le_trans (free_later j (le_of_suc-le m) i l)
          (le_trans (le_of_eq (ap (λ (u : ℕ). get_or (bench j).free u 0) e)) (le-max_left (get_or (bench j).free (unit j) 0) (held j)))
