-- Every slack lies between the least and the greatest that there can be. Assumes nothing.
use mathlib.Core.Path.{◌≡◌}
use mathlib.Core.Bool.{true}
use mathlib.Core.List.{List}
use Prim.Native.Nat.{ℕ, ◌≤◌, ◌<◌, zero-le}
use native.Mathlib.Nat.{le_trans, lt_of_lt_of_le}
use native.Mathlib.Omega.{arith}
use borrow.Author.Tests.{eqb-true, ltb-true, ltb-false}
use lib.Dec.{eqb, ltb, leb→le}
use lib.IntN.{ℤ, pos, negsuc, nat_abs}
use lib.ListN.{length, get_or, replicate, get_or-replicate, get_or-eq_default}
use lib.Signed.{◌≤ℤ◌, le_z_yes}
use Rattle.task_set.specs.Bounded.{any, tabulate}
use Rattle.task_set.proofs.Truth.{by_test}
use Rattle.task_set.proofs.Search.{first_is}
use Rattle.task_set.proofs.Tables.{length_tabulate, get_d_tabulate}
use Rattle.plan.specs.declared.Plan.{Plan}
use Rattle.plan.specs.declared.Constraint.{Constraint}
use Rattle.plan.specs.Rules.{most_tasks, latest_deadline, last_instant, deadline_of}
use Rattle.plan.proofs.Accepted.{Accepted}
use Rattle.runs.specs.Running.{worst, or_zero, ended}
use Rattle.runs.proofs.Positions.{worst_short, horizon_short, worst_allowed, allowed_lasts}
use Rattle.runs.proofs.Orders.{finish_of}
use Rattle.runs.proofs.Response.{ended_finish, finish_by}
use Rattle.simulation_run.specs.declared.Simulation.{Simulation}
use Rattle.simulation.specs.Simulated.{ran, worst_case}
use Rattle.simulation.proofs.Ran.{worst_taken, worst_runs}
use Rattle.slack.specs.declared.Slacks.{Slacks}
use Rattle.slack.specs.Margins.{is_due, slack_of, slack_at, is_tightest, tightest, no_slacks, some_slacks, slacks_in, slacks_of, least_slack, greatest_slack, InRange}
use Rattle.slack.proofs.Differences.{difference_mono}

abbrev pub Between : ℤ → Type 0
Between x = (least_slack ≤ℤ x) × (x ≤ℤ greatest_slack)

zero_between : Between (pos 0)
zero_between = (le_z_yes tt, le_z_yes tt)

module _ {p : Plan} {c : Constraint} (a : Accepted p c) where
  -- the finish of a task in the run of worst times
  pub worst_finish : (t : ℕ) → t < p.tasks → get_or (ran p c (worst p c)).finishes t 0 ≡ finish_of p c (worst p c) t
  unfolding ran
  worst_finish t l =
      let d = worst p c in
      rw (
        get_d_tabulate most_tasks (λ t. or_zero ((ended p c d).finish t)) t 0 (lt_of_lt_of_le l a.few_tasks),
        ended_finish a d (allowed_lasts a d (worst_allowed a)) t l,
      )

  -- it comes at instant 1 at the earliest, and not after the last instant
  pub finish_between : (t : ℕ) → t < p.tasks → let f = get_or (ran p c (worst p c)).finishes t 0 in
      (1 ≤ f) × (f ≤ last_instant)
  finish_between t l =
      let d = worst p c in
      let w = allowed_lasts a d (worst_allowed a) in
      rw (worst_finish t l) (
        omega (arith, w t l),
        le_trans (finish_by a d w t l) (horizon_short a d (worst_short a)),
      )

  slack_between : (t : ℕ) → Between (slack_of p.deadlines (ran p c (worst p c)).finishes t)
  unfolding slack_of
  slack_between t = by_test (is_due p.deadlines t) due (λ e. rw e zero_between)
    where
      d : ℕ
      d = deadline_of p.deadlines t

      f : ℕ
      f = get_or (ran p c (worst p c)).finishes t 0

      due : is_due p.deadlines t ≡ true → Between (slack_of p.deadlines (ran p c (worst p c)).finishes t)
      due e =
          let l = ltb-true 0 d e in
          let r = a.due t l in
          let q = finish_between t r.0 in
          rw e (
            difference_mono 1 last_instant d f (omega (arith, l, q)),
            difference_mono d f latest_deadline 1 (omega (arith, r, q)),
          )

-- its size, whatever its sign
pub between_size : (x : ℤ) → Between x → nat_abs x ≤ last_instant
between_size (pos n) b = omega (arith, leb→le n _ b.1.le)
between_size (negsuc n) b = omega (arith, leb→le n _ b.0.le)

-- ---- the answers

pub record Ranged (r : Slacks) : Type 0 where
  pub each : InRange r.slacks
  pub least : Between r.least
  pub task : r.task ≤ most_tasks

none_ranged : (number place : ℕ) → Ranged (no_slacks number place)
unfolding no_slacks
none_ranged number place =
    let z : (t : ℕ) → t < most_tasks → slack_at (replicate most_tasks (pos 0)) t ≡ pos 0 =
    λ t. get_or-replicate most_tasks t (pos 0) (pos 0) in
    record {
      each = record { low = λ t l. rw (z t l) zero_between.0; high = λ t l. rw (z t l) zero_between.1 };
      least = zero_between;
      task = zero-le;
    }

module _ (deadlines finishes : List ℕ) (h : (t : ℕ) → Between (slack_of deadlines finishes t)) where
  abbrev slacks : List ℤ
  slacks = tabulate most_tasks (slack_of deadlines finishes)

  listed : (t : ℕ) → Between (slack_at slacks t)
  listed t = by_test (ltb t most_tasks) (λ e. inside (ltb-true t most_tasks e)) (λ e. past (ltb-false t most_tasks e))
    where
      inside : t < most_tasks → Between (slack_at slacks t)
      inside l = rw (get_d_tabulate most_tasks (slack_of deadlines finishes) t (pos 0) l) (h t)

      past : most_tasks ≤ t → Between (slack_at slacks t)
      past l =
          let m : length slacks ≤ t = rw (length_tabulate most_tasks (slack_of deadlines finishes)) l in
          rw (get_or-eq_default slacks (pos 0) m) zero_between

  some_ranged : Ranged (some_slacks deadlines finishes)
  unfolding some_slacks tightest
  some_ranged =
      record {
        each = record { low = λ t l. (listed t).0; high = λ t l. (listed t).1 };
        least = listed _;
        task = (first_is most_tasks (is_tightest deadlines slacks)).searched.within;
      }

pub in_range : (p : Plan) (c : Constraint) → Ranged (slacks_of p c)
unfolding slacks_of slacks_in
in_range p c =
    by_test (eqb s.number 0) (λ e. rw e (by_test (any most_tasks (is_due p.deadlines)) (λ q. rw q (some e))
    (λ q. rw q (none_ranged 0 0)))) (λ e. rw e (none_ranged s.number s.place))
  where
    s : Simulation
    s = worst_case p c

    some : eqb s.number 0 ≡ true → Ranged (some_slacks p.deadlines s.finishes)
    some e =
        let z = eqb-true s.number 0 e in
        some_ranged p.deadlines s.finishes (λ t. rw (worst_runs p c z) (slack_between (worst_taken p c z) t))
