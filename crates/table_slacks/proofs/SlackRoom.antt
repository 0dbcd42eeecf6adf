-- No text of margins needs more bytes than there is room for. Assumes nothing.
use mathlib.Core.Path.{◌≡◌, refl}
use mathlib.Core.Bool.{true}
use Prim.Native.Nat.{ℕ, ◌+◌, ◌*◌, ◌≤◌, ◌<◌, zero-le}
use native.Mathlib.Omega.{arith}
use borrow.Author.Tests.{ltb-true}
use lib.ListN.{length, length-append}
use Rattle.task_set.proofs.Truth.{by_test}
use Rattle.plan.specs.declared.Plan.{Plan}
use Rattle.plan.specs.declared.Constraint.{Constraint}
use Rattle.plan.specs.Rules.{most_tasks, latest_deadline, last_instant, deadline_of}
use Rattle.plan.specs.Refusals.{entry_at}
use Rattle.dispatch_theory.proofs.Sums.{sum_le}
use Rattle.simulation_run.specs.declared.Simulation.{Simulation}
use Rattle.simulation.specs.Simulated.{worst_case}
use Rattle.simulation.proofs.Ran.{worst_taken, worst_runs}
use Rattle.slack.specs.declared.Slacks.{Slacks}
use Rattle.slack.specs.declared.Parts.{Parts}
use Rattle.slack.specs.Margins.{is_due, slack_at, parts_of, slacks_in, slacks_of}
use Rattle.slack.proofs.Range.{Ranged, between_size, finish_between, in_range}
use Rattle.table_lines.specs.Decimal.{decimal_upto, decimal}
use Rattle.table_slack_lines.specs.SlackText.{signed_field, slack_line_of, least_line, slack_text_by}
use Rattle.table_slacks.specs.SlackTable.{slack_text_of, slack_room}
use Rattle.table_lines.proofs.Digits.{decimal_mono}
use Rattle.table_lines.proofs.Text.{length_joined}
use Rattle.table_slack_lines.proofs.SlackLines.{slack_length}

abbrev digits : ℕ → ℕ
digits x = length (decimal x)

-- a line, and the last: numbers, the sign, tabs and the newline
abbrev line_most : ℕ
line_most = digits most_tasks + digits latest_deadline + digits last_instant + (digits last_instant + 1) + 4

abbrev last_most : ℕ
last_most = (digits last_instant + 1) + digits most_tasks + 4

whole : most_tasks * line_most + last_most ≡ slack_room
unfolding decimal decimal_upto
whole = refl

sign_most : (s : Parts) (mark : ℕ) → s.size ≤ last_instant → length (signed_field s mark) ≤ digits last_instant + 2
sign_most s mark l =
    by_test s.negative (λ e. rw e (simp length-append (omega (arith, decimal_mono s.size last_instant l))))
    (λ e. rw e (simp length-append (omega (arith, decimal_mono s.size last_instant l))))

module _ (p : Plan) (c : Constraint) (z : (worst_case p c).number ≡ 0) where
  abbrev s : Simulation
  s = worst_case p c

  abbrev r : Slacks
  r = slacks_in p s

  ranged : Ranged r
  unfolding slacks_of
  ranged = in_range p c

  line_most_lem : (t : ℕ) → t < most_tasks → length (slack_line_of p.deadlines s.finishes r.slacks t) ≤ line_most
  unfolding slack_line_of
  line_most_lem t l = by_test (is_due p.deadlines t) due (λ e. rw e zero-le)
    where
      due : is_due p.deadlines t ≡ true → length (slack_line_of p.deadlines s.finishes r.slacks t) ≤ line_most
      due e =
          let a = worst_taken p c z in
          let d = a.due t (ltb-true 0 (deadline_of p.deadlines t) e) in
          let f : entry_at s.finishes t ≤ last_instant = rw (worst_runs p c z) (finish_between a t d.0).1 in
          let x = slack_at r.slacks t in
          rw e (omega (
            arith,
            slack_length t (deadline_of p.deadlines t) (entry_at s.finishes t) (parts_of x),
            decimal_mono t most_tasks (omega arith),
            decimal_mono (deadline_of p.deadlines t) latest_deadline d.1,
            decimal_mono (entry_at s.finishes t) last_instant f,
            sign_most (parts_of x) 10 (between_size x (ranged.each.low t l, ranged.each.high t l)),
          ))

  last_most_lem : length (least_line (parts_of r.least) r.task) ≤ last_most
  last_most_lem =
      simp length-append (omega (
        arith,
        simp length-append at (sign_most (parts_of r.least) 9 (between_size r.least ranged.least)),
        decimal_mono r.task most_tasks ranged.task,
      ))

  pub slack_room_lem : length (slack_text_of p s) ≤ slack_room
  unfolding slack_text_by
  slack_room_lem =
      by_test r.any (λ e. rw (e, length-append, length_joined) (omega (
        arith,
        whole,
        last_most_lem,
        sum_le most_tasks (λ t. length (slack_line_of p.deadlines s.finishes r.slacks t)) line_most line_most_lem,
      ))) (λ e. rw e (omega (arith, whole)))
