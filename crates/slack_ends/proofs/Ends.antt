-- Both ends of the range are reached: for each there is a plan with an order that the check takes and a task that has it as its
-- margin. Assumes nothing.
use mathlib.Core.Path.{◌≡◌, refl, ap, ◌∙◌}
use mathlib.Core.Bool.{true, cond}
use mathlib.Core.List.{List, [], ◌∷◌, ◌++◌}
use Prim.Native.Nat.{ℕ, zero, suc, ◌+◌, ◌*◌, ◌-◌, ◌%◌, ◌^◌, ◌≤◌, ◌<◌}
use native.Mathlib.Nat.{le_antisymm, le_of_eq, le_trans, le_of_suc-le, lt-suc_self, lt_of_lt_of_le}
use native.Mathlib.Omega.{arith}
use borrow.Author.Tests.{eqb-true, eq-eqb, ltb-true}
use lib.Dec.{eqb}
use lib.IntN.{ℤ, pos, ◌-ℤ◌}
use lib.ListN.{length, get_or, replicate}
use Rattle.task_set.specs.Bounded.{all, any, first, tabulate}
use Rattle.task_set.specs.Sets.{has}
use Rattle.task_set.proofs.Bounded.{all_elim, any_intro}
use Rattle.task_set.proofs.Tables.{get_d_tabulate}
use Rattle.plan.specs.declared.Plan.{Plan}
use Rattle.plan.specs.declared.Constraint.{Constraint}
use Rattle.plan.specs.Rules.{most_types, most_tasks, most_pairs, longest_time, latest_deadline, latest_release, last_instant, time_of, predecessors_of, instant_of, deadline_of, release_of, usable, counts_ok, units_ok, pair_ok, pairs_ok, some_type_ok, predecessors_ok, task_ok, instant_ok, plan_ok}
use Rattle.plan.specs.Refusals.{plan_of, constraint_of, misplaced, unusable, predecessor_later, unless_at, verdict}
use Rattle.plan.proofs.Accepted.{Accepted, accepted}
use Rattle.dispatch_theory.specs.Sums.{sum, greatest}
use Rattle.dispatch_theory.proofs.Greedy.{ends, Greedy}
use Rattle.dispatch_theory.proofs.Rules.{Order, rule_gate, gate_elim}
use Rattle.runs.specs.Running.{entries, type_in, type_of, worst, greatest_release, horizon}
use Rattle.runs.proofs.Positions.{task_at, type_at, position_entry, worst_entry, worst_allowed, allowed_lasts}
use Rattle.runs.proofs.Orders.{order_of, durations, finish_of, greedy}
use Rattle.runs.proofs.Response.{finish_by}
use Rattle.simulation_run.specs.declared.Simulation.{Simulation}
use Rattle.simulation_run.specs.Ran.{ran}
use Rattle.simulation.specs.Simulated.{worst_case}
use Rattle.slack.specs.Margins.{is_due, slack_of, slack_at, some_slacks, slacks_in, slacks_of, least_slack, greatest_slack}
use Rattle.slack.proofs.Range.{worst_finish, finish_between}

-- the arrays are as long as a program's
abbrev pub Sized : Plan → Constraint → Type 0
Sized p c =
    length p.units ∷ length p.bcet ∷ length p.wcet ∷ length p.predecessors ∷ length p.deadlines
    ∷ length p.releases ∷ length c.order ∷ length c.chosen ∷ []
    ≡ most_types ∷ most_pairs ∷ most_pairs ∷ most_tasks ∷ most_tasks ∷ most_tasks ∷ most_tasks ∷ most_tasks ∷ []

-- some task of some plan, with an order that the check takes, has this margin
abbrev pub Reached : ℤ → Type 0
Reached x =
    (p : Plan) × (c : Constraint) × (t : ℕ) × Sized p c × ((verdict p c).number ≡ 0) × (slack_at (slacks_of p c).slacks t ≡ x)

-- ---- the margin of a task with a deadline, by its finish in the run of worst times

module _ (p : Plan) (c : Constraint) (z : (verdict p c).number ≡ 0) (t : ℕ) (due : is_due p.deadlines t ≡ true) where
  abbrev finishes : List ℕ
  finishes = (ran p c (worst p c)).finishes

  low : t < most_tasks
  low =
      let a = accepted p c z in
      lt_of_lt_of_le (a.due t (ltb-true 0 (deadline_of p.deadlines t) due)).0 a.few_tasks

  runs : worst_case p c ≡ ran p c (worst p c)
  unfolding worst_case
  runs = rw (eq-eqb (verdict p c).number 0 z)

  listed : (slacks_in p (ran p c (worst p c))).slacks ≡ tabulate most_tasks (slack_of p.deadlines finishes)
  unfolding slacks_in some_slacks ran
  listed = rw (any_intro most_tasks (is_due p.deadlines) t low due) refl

  margin : {f : ℕ} → get_or finishes t 0 ≡ f → slack_at (slacks_of p c).slacks t ≡ pos (deadline_of p.deadlines t) -ℤ pos f
  unfolding slacks_of slack_of
  margin e =
      ap (λ (s : Simulation). slack_at (slacks_in p s).slacks t) runs ∙ ap (λ (l : List ℤ). slack_at l t) listed
      ∙ get_d_tabulate most_tasks (slack_of p.deadlines finishes) t (pos 0) low ∙ rw (due, e) refl

-- ---- the least: 64 tasks of the longest time, each after the one before it, from the latest not-before instant on

-- where each position waits for the one before it and lasts the longest time
in_turn : (o : Order) {d S : ℕ → ℕ} → Greedy (rule_gate o) o.size d S → ((k : ℕ) → k < o.size → d k ≡ longest_time)
    → ((k : ℕ) → suc k < o.size → o.waits (suc k) k ≡ true) → (k : ℕ) → k < o.size → o.release 0 + k * longest_time ≤ S k
in_turn o {d} {S} g long waits zero l = omega (arith, (gate_elim o (ends S d) (S 0) 0 (g.open_at 0 l)).released)
in_turn o {d} {S} g long waits (suc k) l =
    omega (
      arith,
      in_turn o g long waits k (le_of_suc-le l),
      long k (le_of_suc-le l),
      (gate_elim o (ends S d) (S (suc k)) (suc k) (g.open_at (suc k) l)).waited k (lt-suc_self k) (waits k l),
    )

module _ {p : Plan} {c : Constraint} (a : Accepted p c)
    (long : (k : ℕ) → k < p.tasks → time_of p.wcet (task_at c k) (type_at c k) ≡ longest_time)
    (waits : (k : ℕ) → suc k < p.tasks → has (predecessors_of p.predecessors (task_at c (suc k))) (task_at c k) ≡ true) where
  late_finish : (k : ℕ) → k < p.tasks
      → release_of p.releases (task_at c 0) + suc k * longest_time ≤ finish_of p c (worst p c) (task_at c k)
  late_finish k l =
      rw (position_entry a k l) (omega (arith, in_turn (order_of p c) (greedy a (worst p c)) lasts waits k l, lasts k l))
    where
      lasts : (k : ℕ) → k < p.tasks → durations c (worst p c) k ≡ longest_time
      lasts k l = worst_entry a k l ∙ long k l

-- all on type 0; the last task has deadline 1
unfoldable long_times : List ℕ
long_times = tabulate most_pairs (λ i. cond (eqb (i % most_types) 0) longest_time 0)

unfoldable long_plan : Plan
long_plan =
    plan_of 1 (1 ∷ replicate 7 0) most_tasks long_times long_times (tabulate most_tasks (λ t. cond (eqb t 0) 0 (2 ^ (t - 1))))
    (replicate 63 0 ++ (1 ∷ [])) (latest_release ∷ replicate 63 0)

unfoldable long_order : Constraint
long_order = constraint_of most_tasks (tabulate most_tasks (λ i. i)) (replicate most_tasks 0)

long_taken : (verdict long_plan long_order).number ≡ 0
unfolding all any first tabulate has time_of predecessors_of instant_of usable counts_ok units_ok pair_ok pairs_ok some_type_ok
    predecessors_ok task_ok instant_ok plan_ok misplaced unusable predecessor_later unless_at verdict long_times long_plan long_order
long_taken = refl

long_each : all most_tasks (λ k. eqb (time_of long_plan.wcet (task_at long_order k) (type_at long_order k)) longest_time) ≡ true
unfolding all tabulate time_of long_times long_plan long_order
long_each = refl

long_waits : all 63 (λ k. has (predecessors_of long_plan.predecessors (task_at long_order (suc k))) (task_at long_order k)) ≡ true
unfolding all tabulate has predecessors_of long_plan long_order
long_waits = refl

long_finish : get_or (ran long_plan long_order (worst long_plan long_order)).finishes 63 0 ≡ last_instant
unfolding tabulate instant_of long_plan long_order
long_finish =
    le_antisymm (finish_between a 63 (omega arith)).1
    (rw (worst_finish a 63 (omega arith))
    (late_finish a (λ k l. eqb-true _ _ (all_elim most_tasks _ long_each k l))
    (λ k l. all_elim 63 _ long_waits k (omega arith)) 63 (omega arith)))
  where
    a : Accepted long_plan long_order
    a = accepted long_plan long_order long_taken

pub least_reached : Reached least_slack
unfolding tabulate instant_of long_times long_plan long_order
least_reached =
    (long_plan, long_order, 63, refl, long_taken, margin long_plan long_order long_taken 63 refl long_finish)

-- ---- the greatest: one task that lasts 1, with the latest deadline

unfoldable short_plan : Plan
short_plan =
    plan_of 1 (1 ∷ replicate 7 0) 1 (1 ∷ replicate 511 0) (1 ∷ replicate 511 0) (replicate most_tasks 0)
    (latest_deadline ∷ replicate 63 0) (replicate most_tasks 0)

unfoldable short_order : Constraint
short_order = constraint_of 1 (replicate most_tasks 0) (replicate most_tasks 0)

short_taken : (verdict short_plan short_order).number ≡ 0
unfolding all any first has time_of predecessors_of instant_of usable counts_ok units_ok pair_ok pairs_ok some_type_ok predecessors_ok task_ok
    instant_ok plan_ok misplaced unusable predecessor_later unless_at verdict short_plan short_order
short_taken = refl

short_horizon : horizon short_plan (worst short_plan short_order) ≡ 1
unfolding tabulate sum greatest time_of instant_of entries type_in type_of worst greatest_release horizon short_plan short_order
short_horizon = refl

short_finish : get_or (ran short_plan short_order (worst short_plan short_order)).finishes 0 0 ≡ 1
unfolding short_plan
short_finish =
    le_antisymm
    (le_trans (le_of_eq (worst_finish a 0 (omega arith)))
    (le_trans
    (finish_by a (worst short_plan short_order) (allowed_lasts a (worst short_plan short_order) (worst_allowed a)) 0 (omega arith))
    (le_of_eq short_horizon)))
    (finish_between a 0 (omega arith)).0
  where
    a : Accepted short_plan short_order
    a = accepted short_plan short_order short_taken

pub greatest_reached : Reached greatest_slack
unfolding instant_of short_plan short_order
greatest_reached =
    (short_plan, short_order, 0, refl, short_taken, margin short_plan short_order short_taken 0 refl short_finish)
