-- When a timed run is over, how long it takes at most, and that until then some task runs. Assumes nothing.
use mathlib.Core.Path.{◌≡◌, refl, sym, ap, ap₂, ◌∙◌}
use mathlib.Core.Bool.{Bool, true, false, ◌&&◌, not, and_comm}
use mathlib.Core.Option.{some}
use Prim.Native.Nat.{ℕ, ◌+◌, ◌-◌, ◌≤◌, ◌<◌}
use native.Mathlib.Nat.{le_trans, le_of_eq}
use native.Mathlib.Omega.{arith}
use borrow.Author.Tests.{leb-true, leb-false, le-leb, lt-ltb, le-ltb, not-true}
use lib.Dec.{eqb, leb, ltb}
use lib.ListN.{get_or}
use Rattle.task_set.specs.Bounded.{all}
use Rattle.task_set.specs.Sets.{width}
use Rattle.task_set.proofs.Truth.{same, and_both, and_right, not_leb}
use Rattle.task_set.proofs.Bounded.{all_intro, all_elim, any_elim, not_all, count_cong}
use Rattle.plan.specs.declared.Plan.{Plan}
use Rattle.plan.specs.declared.Constraint.{Constraint}
use Rattle.plan.proofs.Accepted.{Accepted}
use Rattle.dispatch_theory.specs.Sums.{sum, greatest}
use Rattle.dispatch_theory.proofs.Sums.{sum_cong, sum_zero, greatest_lub, greatest_le, greatest_cong}
use Rattle.dispatch_theory.proofs.Reorder.{count_upto, greatest_reorder}
use Rattle.dispatch_theory.proofs.Greedy.{ends, busy as theory-busy, overrun, response_bound, response_overrun as theory-overrun}
use Rattle.dispatch_theory.proofs.Rules.{units_kept}
use Rattle.runs.specs.Running.{type_of, or_zero, has_started, has_finished, is_running, busy, timed, over, greatest_release, horizon, ended, response}
use Rattle.runs.proofs.Positions.{task_at, type_at, position, position_entry, position_low, entry_position, type_entry, by_position, count_by_position}
use Rattle.runs.proofs.Orders.{order_of, hold_of, Lasting, durations, starts_of, start_of, finish_of, lawful, greedy}
use Rattle.runs.proofs.Closed.{timed_closed, started_timed, finished_timed}

module _ {p : Plan} {c : Constraint} (a : Accepted p c) (d : ℕ → ℕ) (positive : Lasting p d) where
  -- starts and durations by position, and the finish of a task
  abbrev S : ℕ → ℕ
  S = starts_of p c d

  abbrev D : ℕ → ℕ
  D = durations c d

  abbrev finish : ℕ → ℕ
  finish = finish_of p c d

  finish_entry : (j : ℕ) → j < p.tasks → finish (task_at c j) ≡ ends S D j
  finish_entry j l = ap (λ (k : ℕ). S k + D j) (position_entry a j l)

  -- no position, and so no task, finishes after the horizon
  pub ends_by : (j : ℕ) → j < p.tasks → ends S D j ≤ horizon p d
  unfolding horizon
  ends_by j l = omega (arith, total, greatest_le p.tasks (ends S D) j l, response_bound (lawful a) (greedy a d))
    where
      total : sum p.tasks (λ j. D j + hold_of p c j) ≡ sum p.tasks d
      total = sum_cong p.tasks _ D (λ j m. omega arith) ∙ by_position a d

  pub finish_by : (t : ℕ) → t < p.tasks → finish t ≤ horizon p d
  finish_by t l =
      omega (arith, ap (λ (x : ℕ). start_of p c d t + d x) (entry_position a t l), ends_by (position c t) (position_low a t l))

  -- the notes when the run is over
  pub ended_start : (t : ℕ) → t < p.tasks → (ended p c d).start t ≡ some (start_of p c d t)
  unfolding ended
  ended_start t l =
      rw (timed_closed a d positive (horizon p d), lt-ltb t p.tasks l)
      (rw (le-leb (start_of p c d t) (horizon p d) (omega (arith, finish_by t l))) refl)

  pub ended_finish : (t : ℕ) → t < p.tasks → (ended p c d).finish t ≡ some (finish t)
  unfolding ended
  ended_finish t l =
      rw (timed_closed a d positive (horizon p d), lt-ltb t p.tasks l, le-leb (finish t) (horizon p d) (finish_by t l)) refl

  -- the response is the greatest finish, by task and by position
  pub response_finish : response p c d ≡ greatest p.tasks finish
  unfolding response
  response_finish = greatest_cong p.tasks _ finish (λ t l. ap or_zero (ended_finish t l))

  pub response_ends : response p c d ≡ greatest p.tasks (ends S D)
  response_ends =
      response_finish ∙ sym (greatest_reorder p.tasks (task_at c) finish a.task a.somewhere)
      ∙ greatest_cong p.tasks _ (ends S D) finish_entry

  pub response_sum : response p c d ≤ horizon p d
  response_sum = rw response_finish (greatest_lub p.tasks finish (horizon p d) finish_by)

  -- the run is over from the response on, and not before
  pub over_timed : (i : ℕ) → over p (timed p c d i) ≡ leb (response p c d) i
  unfolding over
  over_timed i = rw response_finish (same (all p.tasks (has_finished (timed p c d i))) (leb last i) forth back)
    where
      last : ℕ
      last = greatest p.tasks finish

      forth : all p.tasks (has_finished (timed p c d i)) ≡ true → leb last i ≡ true
      forth e =
          le-leb last i
          (greatest_lub p.tasks finish i
          (λ t l. leb-true (finish t) i
          (and_right (ltb t p.tasks) (leb (finish t) i)
          (sym (finished_timed a d positive i t) ∙ all_elim p.tasks (has_finished (timed p c d i)) e t l))))

      back : leb last i ≡ true → all p.tasks (has_finished (timed p c d i)) ≡ true
      back e =
          all_intro p.tasks (has_finished (timed p c d i))
          (λ t l. finished_timed a d positive i t
          ∙ and_both (lt-ltb t p.tasks l)
          (le-leb (finish t) i (le_trans (greatest_le p.tasks finish t l) (leb-true last i e))))

  -- a position that has started and is not over holds a unit
  pub held_entry : (i j : ℕ) → j < p.tasks → is_running (timed p c d i) (task_at c j) ≡ leb (S j) i && ltb i (ends S D j)
  held_entry i j l =
      rw (
        started_timed a d positive i (task_at c j),
        finished_timed a d positive i (task_at c j),
        lt-ltb (task_at c j) p.tasks (a.task j l),
        position_entry a j l,
      ) (ap (λ (b : Bool). leb (S j) i && b) (not_leb (ends S D j) i))

  -- no more units of a type are taken than it has
  pub units_enough_lem : (i k : ℕ) → busy c (timed p c d i) k ≤ get_or p.units k 0
  unfolding busy
  units_enough_lem i k =
      le_trans
      (le_of_eq
      (count_upto p.tasks width uses a.few_tasks (λ t l m. rw (timed_closed a d positive i, le-ltb t p.tasks l) refl)
      ∙ sym (count_by_position a uses) ∙ count_cong p.tasks (λ j. uses (task_at c j)) _ each))
      (units_kept (order_of p c) (greedy a d) k i)
    where
      uses : ℕ → Bool
      uses t = is_running (timed p c d i) t && eqb (type_of c t) k

      each : (j : ℕ) → j < p.tasks → uses (task_at c j) ≡ eqb (type_at c j) k && (leb (S j) i && ltb i (ends S D j))
      each j l = ap₂ ◌&&◌ (held_entry i j l) (ap (λ (x : ℕ). eqb x k) (type_entry a j l)) ∙ and_comm _ (eqb (type_at c j) k)

  -- from the greatest not-before instant on, until the run is over, some task runs after each walk
  pub never_idle : (i : ℕ) → greatest_release p ≤ i → over p (timed p c d i) ≡ false
      → (t : ℕ) × (t < p.tasks) × (is_running (timed p c d i) t ≡ true)
  unfolding over
  never_idle i b e = (
    task_at c r.0,
    a.task r.0 r.1,
    held_entry i r.0 r.1 ∙ and_both (le-leb _ i r.2) (lt-ltb i _ (omega (arith, r.3))),
  )
    where
      u : (t : ℕ) × (t < p.tasks) × (not (has_finished (timed p c d i) t) ≡ true)
      u = any_elim p.tasks _ (sym (not_all p.tasks (has_finished (timed p c d i))) ∙ ap not e)

      unfinished : i < finish u.0
      unfinished =
          leb-false (finish u.0) i
          (rw (lt-ltb u.0 p.tasks u.1) at
          (sym (finished_timed a d positive i u.0) ∙ not-true (has_finished (timed p c d i) u.0) u.2))

      r : (j : ℕ) × (j < p.tasks) × (S j ≤ i) × (i < S j + (D j + hold_of p c j))
      r =
          theory-busy (lawful a) (greedy a d) i (position c u.0) b (position_low a u.0 u.1)
          (omega (arith, unfinished, ap (λ (x : ℕ). start_of p c d u.0 + d x) (entry_position a u.0 u.1)))

-- ---- times beyond those of another run

module _ {p : Plan} {c : Constraint} (a : Accepted p c) (d d' : ℕ → ℕ) (positive : Lasting p d) (positive' : Lasting p d') where
  -- the task at position k has started no later than in the other run and what the tasks before it ran longer
  pub start_overrun : (i k : ℕ) → k < p.tasks → has_started (timed p c d' i) (task_at c k) ≡ true
      → has_started (timed p c d (i + sum k (λ j. durations c d j - durations c d' j))) (task_at c k) ≡ true
  start_overrun i k l e =
      started_at d positive (i + late) ∙ le-leb (starts_of p c d k) (i + late)
      (omega (arith, leb-true _ i (sym (started_at d' positive' i) ∙ e), overrun (lawful a) (greedy a d) (greedy a d') k l))
    where
      late : ℕ
      late = sum k (λ j. durations c d j - durations c d' j)

      started_at : (d : ℕ → ℕ) → Lasting p d → (i : ℕ) → has_started (timed p c d i) (task_at c k) ≡ leb (starts_of p c d k) i
      started_at d w i =
          started_timed a d w i (task_at c k) ∙ rw (lt-ltb (task_at c k) p.tasks (a.task k l), position_entry a k l) refl

  pub response_overrun : response p c d ≤ response p c d' + sum p.tasks (λ t. d t - d' t)
  response_overrun =
      rw (response_ends a d positive, response_ends a d' positive', ← by_position a (λ t. d t - d' t))
      (theory-overrun (lawful a) (greedy a d) (greedy a d'))

  -- no time longer: no later response
  pub response_shorter : ((t : ℕ) → t < p.tasks → d t ≤ d' t) → response p c d ≤ response p c d'
  response_shorter h = omega (arith, response_overrun, sum_zero p.tasks (λ t. d t - d' t) (λ t l. omega (arith, h t l)))
