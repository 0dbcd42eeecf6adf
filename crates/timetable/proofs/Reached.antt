-- The longest timetable is reached: the most tasks, one after the other on one unit, each with the longest time, from the latest
-- not-before instant on. Assumes nothing.
use mathlib.Core.Path.{◌≡◌, refl, sym, ap, ap₂, ◌∙◌}
use mathlib.Core.Bool.{true, false, or-true, and-false}
use mathlib.Core.List.{List, ◌∷◌}
use Prim.Native.Nat.{ℕ, zero, suc, ◌+◌, ◌≤◌, ◌<◌}
use native.Mathlib.Nat.{le_refl, le_trans, le_antisymm, le_of_suc-le, lt-suc_self, lt_trans}
use native.Mathlib.Omega.{arith}
use borrow.Author.Tests.{lt-ltb, le-leb, lt-leb, eq-eqb, ne_eqb, ltb-false}
use lib.Dec.{eqb, ltb}
use lib.ListN.{length, get_or, replicate, get_or-replicate, length-append}
use Rattle.task_set.specs.Bounded.{all, count, implies, tabulate}
use Rattle.task_set.proofs.Truth.{by_test, and_both, or_none}
use Rattle.task_set.proofs.Bounded.{all_intro, any_intro, any_none, count_less}
use Rattle.task_set.proofs.Members.{has_none}
use Rattle.task_set.proofs.Search.{first_absent}
use Rattle.task_set.proofs.Tables.{get_d_tabulate}
use Rattle.task_set.specs.Sets.{width, has}
use Rattle.plan.specs.declared.Plan.{Plan}
use Rattle.plan.specs.declared.Constraint.{Constraint}
use Rattle.plan.specs.declared.Verdict.{Verdict}
use Rattle.plan.specs.Rules.{most_types, most_tasks, most_pairs, longest_time, latest_deadline, latest_release, last_instant, pair_index, time_of, predecessors_of, instant_of, usable, counts_ok, units_ok, pair_ok, pairs_ok, some_type_ok, predecessors_ok, task_ok, instant_ok, plan_ok}
use Rattle.plan.specs.Refusals.{entry_at, no_refusal, plan_of, constraint_of, misplaced, unusable, predecessor_later, verdict}
use Rattle.plan.proofs.Refusing.{unless_none}
use Rattle.plan.proofs.Accepted.{Accepted, accepted}
use Rattle.dispatch_theory.specs.Sums.{sum}
use Rattle.dispatch_theory.proofs.Sums.{sum_cong, greatest_le}
use Rattle.dispatch_theory.proofs.Greedy.{ends}
use Rattle.dispatch_theory.proofs.Rules.{holds}
use Rattle.dispatch_theory.proofs.Units.{open_now}
use Rattle.runs.specs.Running.{worst, or_zero, ended, response}
use Rattle.runs.proofs.Positions.{task_at, type_at, position, position_entry, worst_entry, worst_lasts, worst_short, worst_allowed, horizon_short}
use Rattle.runs.proofs.Orders.{order_of, durations, starts_of, greedy}
use Rattle.runs.proofs.Response.{ended_start, ended_finish, response_ends, response_sum}
use Rattle.simulation.specs.Simulated.{ran, worst_case}
use Rattle.simulation.proofs.Ran.{worst_runs}
use Rattle.table_lines.specs.Decimal.{decimal_upto, decimal}
use Rattle.table_lines.specs.Texts.{field, joined}
use Rattle.table_lines.proofs.Text.{length_joined}
use Rattle.table_run_lines.specs.RunText.{line, line_at, text_by, text_of}
use Rattle.timetable.specs.Table.{longest_timetable}
use Rattle.timetable.proofs.Longest.{latest, start_by}

-- ---- the plan: one unit of each type, every task may use every type, and comes with the latest not-before instant

abbrev p : Plan
p =
    plan_of most_types (replicate most_types 1) most_tasks (replicate most_pairs longest_time) (replicate most_pairs longest_time)
    (replicate most_tasks 0) (replicate most_tasks 0) (replicate most_tasks latest_release)

-- in task order, all on type 0
abbrev c : Constraint
c = constraint_of most_tasks (tabulate most_tasks (λ i. i)) (replicate most_tasks 0)

-- ---- the check takes it

time : (t k : ℕ) → t < most_tasks → k < most_types → time_of (replicate most_pairs longest_time) t k ≡ longest_time
unfolding time_of
time t k l m =
    rw (lt-ltb t most_tasks l, lt-ltb k most_types m) (get_or-replicate most_pairs (pair_index t k) longest_time 0 (omega arith))

instant : (x t : ℕ) → t < most_tasks → instant_of (replicate most_tasks x) t ≡ x
unfolding instant_of
instant x t l = rw (lt-ltb t most_tasks l) (get_or-replicate most_tasks t x 0 l)

first_task : (t : ℕ) → t < most_tasks → predecessors_of (replicate most_tasks 0) t ≡ 0
unfolding predecessors_of
first_task t l = rw (lt-ltb t most_tasks l) (get_or-replicate most_tasks t 0 0 l)

units : (k : ℕ) → k < most_types → units_ok p.types p.units k ≡ true
unfolding units_ok
units k l = rw (get_or-replicate {A = ℕ} most_types k 1 0 l, lt-ltb k most_types l) refl

pairs : (t : ℕ) → t < most_tasks → pairs_ok p.types p.tasks p.bcet p.wcet t ≡ true
unfolding pairs_ok pair_ok
pairs t l = all_intro most_types _ (λ k m. rw (time t k l m, lt-ltb t most_tasks l, lt-ltb k most_types m) refl)

some_type : (t : ℕ) → t < most_tasks → some_type_ok p.tasks p.wcet t ≡ true
unfolding some_type_ok usable
some_type t l = rw (lt-ltb t most_tasks l) (any_intro most_types (usable p.wcet t) 0 (omega arith) (rw (time t 0 l (omega arith)) refl))

no_predecessors : (t : ℕ) → t < most_tasks → predecessors_ok p.tasks p.predecessors t ≡ true
unfolding predecessors_ok
no_predecessors t l =
    rw (first_task t l, lt-ltb t most_tasks l, has_none t, nobody) refl
  where
    nobody : all width (λ u. implies (has 0 u) (ltb u most_tasks)) ≡ true
    nobody = all_intro width _ (λ u m. rw (has_none u) refl)

tasks : (t : ℕ) → t < most_tasks → task_ok p.types p.tasks p.bcet p.wcet p.predecessors t ≡ true
unfolding task_ok
tasks t l = and_both (pairs t l) (and_both (some_type t l) (no_predecessors t l))

instants : (latest x t : ℕ) → x ≤ latest → t < most_tasks → instant_ok most_tasks latest (replicate most_tasks x) t ≡ true
unfolding instant_ok
instants latest x t h l = rw (instant x t l, lt-ltb t most_tasks l, le-leb x latest h) (or-true (eqb x 0))

kept : plan_ok p ≡ true
unfolding plan_ok counts_ok
kept =
    and_both refl
    (and_both (all_intro most_types _ units)
    (and_both (all_intro most_tasks _ tasks)
    (and_both (all_intro most_tasks _ (λ t l. instants latest_deadline 0 t (omega arith) l))
    (all_intro most_tasks _ (λ t l. instants latest_release latest_release t (le_refl latest_release) l)))))

-- the task and the type at a position
task_at_lem : (i : ℕ) → i < most_tasks → task_at c i ≡ i
task_at_lem i l = get_d_tabulate most_tasks (λ i. i) i 0 l

type_at_lem : (i : ℕ) → i < most_tasks → type_at c i ≡ 0
type_at_lem i l = get_or-replicate {A = ℕ} most_tasks i 0 0 l

placed : (i : ℕ) → i < most_tasks → misplaced p.tasks c.order i ≡ false
unfolding misplaced
placed i l =
    rw (task_at_lem i l)
    (or_none (lt-leb most_tasks i l)
    (any_none i _ (λ j m. rw (task_at_lem j (lt_trans m l)) (ne_eqb j i (λ e. omega arith)))))

used : (i : ℕ) → i < most_tasks → unusable p.types p.wcet c.order c.chosen i ≡ false
unfolding unusable usable
used i l = rw (task_at_lem i l, type_at_lem i l, time i 0 l (omega arith)) refl

ordered : (i : ℕ) → i < most_tasks → predecessor_later p.predecessors c.order c.len i ≡ false
unfolding predecessor_later
ordered i l =
    any_none most_tasks _ (λ j m. rw (task_at_lem i l, task_at_lem j m, first_task i l, has_none j) (and-false (ltb i j)))

checked : (verdict p c).number ≡ 0
unfolding verdict
checked = rw kept (ap (λ (v : Verdict). v.number) (sym (
    unless_none 11 most_tasks (predecessor_later p.predecessors c.order c.len) no_refusal (first_absent most_tasks _ ordered) (le_refl most_tasks)
    ∙ unless_none 10 most_tasks (unusable p.types p.wcet c.order c.chosen) _ (first_absent most_tasks _ used) (le_refl most_tasks)
    ∙ unless_none 9 most_tasks (misplaced p.tasks c.order) _ (first_absent most_tasks _ placed) (le_refl most_tasks))))

a : Accepted p c
a = accepted p c checked

-- ---- the run: each task starts when the one before it finishes

abbrev d : ℕ → ℕ
d = worst p c

abbrev S : ℕ → ℕ
S = starts_of p c d

lasts : (t : ℕ) → t < most_tasks → d t ≡ longest_time
lasts t l = rw (task_at_lem t l, type_at_lem t l) at (worst_entry a t l) ∙ time t 0 l (omega arith)

-- no earlier than the not-before instant
come : (k : ℕ) → k < most_tasks → latest_release ≤ S k
come k l = rw (task_at_lem k l, instant latest_release k l) at (open_now (order_of p c) (greedy a d) k l).released

-- and no earlier than the finish of the task before it, which has the only unit
behind : (k : ℕ) → suc k < most_tasks → S k + longest_time ≤ S (suc k)
behind k l =
    let m : k < most_tasks = le_of_suc-le l in
    by_test (ltb (S (suc k)) (ends S (durations c d) k))
    (λ e. absurd (omega (
      arith,
      count_less (suc k) (holds (order_of p c) (ends S (durations c d)) (S (suc k)) (type_at c (suc k))) k (lt-suc_self k)
          (and_both (eq-eqb _ _ (type_at_lem k m ∙ sym (type_at_lem (suc k) l))) e),
      one_unit,
    )))
    (λ e. omega (arith, ltb-false (S (suc k)) (ends S (durations c d) k) e, ap d (task_at_lem k m) ∙ lasts k m))
  where
    one_unit : count (suc k) (holds (order_of p c) (ends S (durations c d)) (S (suc k)) (type_at c (suc k))) < 1
    one_unit = rw (ap (λ (x : ℕ). get_or p.units x 0) (type_at_lem (suc k) l)) at (open_now (order_of p c) (greedy a d) (suc k) l).room

late : (k : ℕ) → k < most_tasks → latest k ≤ S k
late zero l = come 0 l
late (suc k) l = omega (arith, late k (le_of_suc-le l), behind k l)

start_is : (k : ℕ) → k < most_tasks → S k ≡ latest k
start_is k l = le_antisymm (start_by a d (worst_allowed a) k l) (late k l)

-- ---- the text

position_is : (t : ℕ) → t < most_tasks → position c t ≡ t
position_is t l = ap (position c) (sym (task_at_lem t l)) ∙ position_entry a t l

started : (t : ℕ) → t < most_tasks → entry_at (ran p c d).starts t ≡ latest t
unfolding ran
started t l =
    get_d_tabulate most_tasks (λ t. or_zero ((ended p c d).start t)) t 0 l ∙ ap or_zero (ended_start a d (worst_lasts a) t l)
    ∙ ap S (position_is t l) ∙ start_is t l

finished : (t : ℕ) → t < most_tasks → entry_at (ran p c d).finishes t ≡ latest (suc t)
unfolding ran
finished t l =
    get_d_tabulate most_tasks (λ t. or_zero ((ended p c d).finish t)) t 0 l ∙ ap or_zero (ended_finish a d (worst_lasts a) t l)
    ∙ omega (arith, ap S (position_is t l) ∙ start_is t l, lasts t l)

abbrev line_of : ℕ → List ℕ
line_of = line_at c.order c.chosen (ran p c d).starts (ran p c d).finishes

line_is : (i : ℕ) → i < most_tasks → length (line_of i) ≡ length (line i 0 (latest i) (latest (suc i)))
line_is i l = rw (task_at_lem i l, type_at_lem i l, started i l, finished i l) refl

response_is : response p c d ≡ last_instant
response_is =
    le_antisymm (le_trans (response_sum a d (worst_lasts a)) (horizon_short a d (worst_short a)))
    (omega (
      arith,
      response_ends a d (worst_lasts a),
      greatest_le most_tasks (ends S (durations c d)) 63 (omega arith),
      start_is 63 (omega arith),
      ap d (task_at_lem 63 (omega arith)) ∙ lasts 63 (omega arith),
    ))

-- 64 lines and the last
whole : sum most_tasks (λ i. length (line i 0 (latest i) (latest (suc i)))) + length (82 ∷ 9 ∷ field last_instant 10) ≡ longest_timetable
unfolding sum decimal decimal_upto
whole = refl

long : length (text_of c (ran p c d)) ≡ longest_timetable
unfolding text_by ran
long =
    length-append (joined line_of most_tasks) (82 ∷ 9 ∷ field (response p c d) 10)
    ∙ ap₂ ◌+◌ (length_joined line_of most_tasks ∙ sum_cong most_tasks _ _ line_is) (ap (λ (x : ℕ). length (82 ∷ 9 ∷ field x 10)) response_is)
    ∙ whole

runs : (worst_case p c).number ≡ 0
unfolding worst_case ran
runs = rw checked refl

-- a plan and a constraint that the check takes: with the worst times their timetable is the longest
pub reached : (p : Plan) × (c : Constraint) × ((worst_case p c).number ≡ 0)
    × (length (text_of c (worst_case p c)) ≡ longest_timetable)
reached = (p, c, runs, ap (λ s. length (text_of c s)) (worst_runs p c runs) ∙ long)
