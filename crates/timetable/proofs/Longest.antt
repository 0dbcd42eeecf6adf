-- No accepted call needs more bytes than the longest timetable has. Assumes nothing.
use mathlib.Core.Path.{◌≡◌, refl, ap}
use mathlib.Core.Bool.{not}
use mathlib.Core.List.{List, [], ◌∷◌}
use Prim.Native.Nat.{ℕ, zero, suc, ◌+◌, ◌*◌, ◌≤◌, ◌<◌, zero-le}
use native.Mathlib.Nat.{le_step, le_trans, lt-suc_self, lt_trans}
use native.Mathlib.Omega.{arith}
use borrow.Author.Tests.{not-false}
use lib.Dec.{eqb}
use lib.ListN.{length, length-append}
use Rattle.task_set.proofs.Tables.{get_d_tabulate}
use Rattle.plan.specs.declared.Plan.{Plan}
use Rattle.plan.specs.declared.Constraint.{Constraint}
use Rattle.plan.specs.Rules.{most_tasks, longest_time, latest_release, last_instant, release_of}
use Rattle.plan.specs.Refusals.{entry_at}
use Rattle.plan.proofs.Refusing.{cond_passed, unless_passed}
use Rattle.plan.proofs.Accepted.{Accepted}
use Rattle.dispatch_theory.specs.Sums.{sum}
use Rattle.dispatch_theory.proofs.Sums.{sum_mono, sum_le, greatest_lub}
use Rattle.dispatch_theory.proofs.Greedy.{bound}
use Rattle.runs.specs.Running.{worst, Allowed, or_zero, greatest_release, ended, response}
use Rattle.runs.proofs.Positions.{task_at, type_at, position_entry, worst_short, horizon_short, by_position}
use Rattle.runs.proofs.Positions.{allowed_lasts, allowed_most, worst_allowed}
use Rattle.runs.proofs.Orders.{durations, starts_of, lawful, greedy}
use Rattle.runs.proofs.Response.{ended_start, ended_finish, response_sum}
use Rattle.simulation.specs.Simulated.{time_in, outside, times_verdict, ran, simulated, worst_case}
use Rattle.table_lines.specs.Decimal.{decimal_upto, decimal}
use Rattle.table_run_lines.specs.RunText.{line_at, text_by, text_of}
use Rattle.timetable.specs.Table.{longest_timetable}
use Rattle.table_lines.proofs.Digits.{length_one, decimal_mono}
use Rattle.table_lines.proofs.Text.{length_joined}
use Rattle.table_run_lines.proofs.Length.{line_length}
use Rattle.simulation.proofs.Ran.{simulated_taken, times_taken, simulated_runs, worst_taken, worst_runs}

sum_apart : (n : ℕ) (f g h : ℕ → ℕ) → ((i : ℕ) → i < n → f i ≤ g i + h i) → sum n f ≤ sum n g + sum n h
unfolding sum
sum_apart zero f g h l = zero-le
sum_apart (suc n) f g h l = omega (arith, sum_apart n f g h (λ i m. l i (le_step m)), l n (lt-suc_self n))

abbrev digits : ℕ → ℕ
digits x = length (decimal x)

-- the latest start of position i: after the latest not-before instant, and i tasks
abbrev pub latest : ℕ → ℕ
latest i = latest_release + i * longest_time

-- what the line of position i needs beside the task number: type, start, finish, three tabs and the newline
abbrev beside : ℕ → ℕ
beside i = digits (latest i) + digits (latest (suc i)) + 5

-- at 64 positions
whole : sum most_tasks digits + sum most_tasks beside + (digits last_instant + 3) ≡ longest_timetable
unfolding sum decimal decimal_upto
whole = refl

module _ {p : Plan} {c : Constraint} (a : Accepted p c) (d : ℕ → ℕ) (w : Allowed p c d) where
  short : (t : ℕ) → t < p.tasks → d t ≤ longest_time
  short t l = le_trans (allowed_most a d w t l) (worst_short a t l)

  pub start_by : (i : ℕ) → i < p.tasks → starts_of p c d i ≤ latest i
  unfolding greatest_release
  start_by i l =
      omega (
        arith,
        bound (lawful a) (greedy a d) i l,
        greatest_lub p.tasks (release_of p.releases) latest_release (λ t m. a.released t),
        sum_le i (λ j. durations c d j + 0) longest_time (λ j m. omega (arith, short (task_at c j) (a.task j (lt_trans m l)))),
      )

  abbrev line_of : ℕ → List ℕ
  line_of = line_at c.order c.chosen (ran p c d).starts (ran p c d).finishes

  line_by : (i : ℕ) → i < p.tasks → length (line_of i) ≤ digits (task_at c i) + beside i
  unfolding ran
  line_by i l =
      let t = task_at c i in
      let m = a.task i l in
      let n : t < most_tasks = omega (arith, a.few_tasks) in
      rw (
        line_length t (type_at c i) (entry_at (ran p c d).starts t) (entry_at (ran p c d).finishes t),
        get_d_tabulate most_tasks (λ t. or_zero ((ended p c d).start t)) t 0 n,
        get_d_tabulate most_tasks (λ t. or_zero ((ended p c d).finish t)) t 0 n,
        ended_start a d (allowed_lasts a d w) t m,
        ended_finish a d (allowed_lasts a d w) t m,
        position_entry a i l,
      )
      (omega (
        arith,
        length_one (type_at c i) (omega (arith, a.type i l, a.few_types)),
        decimal_mono (starts_of p c d i) (latest i) (start_by i l),
        decimal_mono (starts_of p c d i + d t) (latest (suc i)) (omega (arith, start_by i l, short t m)),
      ))

  pub longest : length (text_of c (ran p c d)) ≤ longest_timetable
  unfolding text_by ran
  longest =
      rw (length-append, length_joined) (omega (
        arith,
        whole,
        ap (λ (n : ℕ). sum n (λ i. length (line_of i))) a.whole,
        length-append (decimal (response p c d)) (10 ∷ []),
        sum_apart p.tasks (λ i. length (line_of i)) (λ i. digits (task_at c i)) beside line_by,
        by_position a digits,
        sum_mono most_tasks digits p.tasks a.few_tasks,
        sum_mono most_tasks beside p.tasks a.few_tasks,
        decimal_mono (response p c d) last_instant
            (le_trans (response_sum a d (allowed_lasts a d w)) (horizon_short a d short)),
      ))

-- ---- the calls that the timetable takes

pub longest_worst : (p : Plan) (c : Constraint) → (worst_case p c).number ≡ 0 → length (text_of c (worst_case p c)) ≤ longest_timetable
longest_worst p c z = let a = worst_taken p c z in rw (worst_runs p c z) (longest a (worst p c) (worst_allowed a))

-- each time of a list that is not refused is allowed
times_allowed : (p : Plan) (c : Constraint) (times : List ℕ) → (times_verdict p c times).number ≡ 0 → Allowed p c (time_in times)
unfolding times_verdict outside
times_allowed p c times e t l =
    let r = cond_passed 17 (length times) (not (eqb (length times) p.tasks)) _ (omega arith) e in
    not-false _ ((unless_passed 18 p.tasks (outside p c times) _ (omega arith) r.1).0 t l)

pub longest_simulated : (p : Plan) (c : Constraint) (times : List ℕ) → (simulated p c times).number ≡ 0
    → length (text_of c (simulated p c times)) ≤ longest_timetable
longest_simulated p c times z =
    rw (simulated_runs p c times z)
    (longest (simulated_taken p c times z) (time_in times) (times_allowed p c times (times_taken p c times z)))
