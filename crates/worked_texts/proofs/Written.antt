-- Timetables, margins, orders, refusals and answers are the bytes that are stated. Assumes nothing.
use mathlib.Core.Path.{refl}
use Rattle.task_set.specs.Bounded.{all, any, count, first, tabulate}
use Rattle.task_set.specs.Sets.{has, insert}
use Rattle.plan.specs.Rules.{time_of, predecessors_of, instant_of, usable, counts_ok, units_ok, pair_ok, pairs_ok, some_type_ok, predecessors_ok, task_ok, instant_ok, plan_ok}
use Rattle.plan.specs.Refusals.{misplaced, unusable, predecessor_later, unless_at, first_refusal, verdict}
use Rattle.text_form.specs.Form.{split, every, is_field, value_from, form_of, line_of}
use Rattle.text_fault.specs.Faults.{first_fault}
use Rattle.plan_text.specs.Reading.{line_done}
use Rattle.plan_text.specs.Text.{read_lines, read_text}
use Rattle.dispatch_theory.specs.Sums.{sum, greatest}
use Rattle.runs.specs.Running.{entries, type_in, type_of, worst, allowed, cleared, released, busy, may_start, dispatch, step, opening, timed, greatest_release, horizon, ended, response, bound}
use Rattle.simulation.specs.Simulated.{outside, times_verdict, simulation_verdict, not_run, simulated, worst_case}
use Rattle.simulation_run.specs.Ran.{ran}
use Rattle.simulation_waits.specs.Waits.{latest_of}
use Rattle.slack.specs.Margins.{slack_of, is_tightest, tightest, no_slacks, some_slacks, slacks_in, slacks_of}
use Rattle.adoption_theory.specs.Schedules.{before, place_of, record_at, in_place, constraint_by}
use Rattle.ranks_arrows.specs.Arrows.{arrow, chain, circle}
use Rattle.ranks.specs.Ranks.{types_of, own_rank, rank_within, rank_by, ranks_of, ranked}
use Rattle.proposal_theory.specs.Proposals.{task_at, fits, held_until, earliest, unit_of, placed, bench_after, bench_of_plan, schedule_by, proposed}
use Rattle.proposal_theory.specs.Proposals as proposals
use Rattle.table_lines.specs.Decimal.{decimal_upto, decimal}
use Rattle.table_lines.specs.Texts.{joined}
use Rattle.table_run_lines.specs.RunText.{text_by}
use Rattle.timetable.specs.Table.{timetabled, buffer_after, worst_timetabled, worst_buffer_after}
use Rattle.table_lines.specs.Refusal.{refusal_line, line_written, line_after}
use Rattle.table_slack_lines.specs.SlackText.{slack_line_of, slack_text_by}
use Rattle.table_slacks.specs.SlackTable.{slack_tabled, slack_buffer_after}
use Rattle.table_orders.specs.OrderTable.{order_tabled, order_buffer_after}
use Rattle.bench_answer.specs.Answer.{or_refused, answer_to, slack_answer_to, proposal_answer_to, answer_text, slack_answer_text, proposal_answer_text}
use Rattle.worked_examples.specs.PlanA.{times, plan_with, plan_due, plan_a, five_entries, order_a}
use Rattle.worked_examples.specs.Rows.{Holds}
use Rattle.worked_texts.specs.Bytes.{bytes}
use Rattle.worked_texts.specs.WritingTable.{timetable_table, line_table, answer_table}

pub timetables : Holds timetable_table
unfolding all any count first tabulate has time_of predecessors_of instant_of usable counts_ok units_ok
    pair_ok pairs_ok some_type_ok predecessors_ok task_ok instant_ok plan_ok misplaced unusable predecessor_later unless_at first_refusal verdict
    sum greatest entries type_in type_of worst allowed cleared released busy may_start dispatch step opening timed greatest_release horizon
    ended response bound outside times_verdict simulation_verdict ran not_run simulated worst_case
    decimal_upto decimal joined text_by timetabled buffer_after worst_timetabled worst_buffer_after
    times plan_with plan_due plan_a five_entries order_a bytes timetable_table
timetables =
    (refl, (refl, (refl, (refl, (refl, (refl, (refl, (refl, (refl, (refl, (refl, (refl, tt))))))))))))

pub lines : Holds line_table
unfolding all any count first tabulate has time_of predecessors_of instant_of usable counts_ok units_ok
    pair_ok pairs_ok some_type_ok predecessors_ok task_ok instant_ok plan_ok misplaced unusable predecessor_later unless_at first_refusal verdict
    sum greatest entries type_in type_of worst allowed cleared released busy may_start dispatch step opening timed greatest_release horizon
    ended response bound outside times_verdict simulation_verdict ran not_run simulated worst_case
    decimal_upto decimal joined text_by timetabled buffer_after worst_timetabled worst_buffer_after
    slack_of is_tightest tightest no_slacks some_slacks slacks_in slacks_of slack_line_of slack_text_by slack_tabled slack_buffer_after
    before place_of record_at in_place constraint_by latest_of arrow chain circle types_of own_rank rank_within rank_by ranks_of ranked
    proposals.before proposals.place_of task_at fits held_until earliest unit_of placed bench_after bench_of_plan schedule_by proposed
    refusal_line line_written line_after order_tabled order_buffer_after
    times plan_with plan_due plan_a five_entries order_a bytes line_table
lines =
    (refl, (refl, (refl, (refl, (refl, (refl, (refl, (refl, (refl, (refl, (refl, (refl, (refl, (refl, (refl, tt)))))))))))))))

pub answers : Holds answer_table
unfolding all any count first tabulate has time_of predecessors_of instant_of usable counts_ok units_ok
    pair_ok pairs_ok some_type_ok predecessors_ok task_ok instant_ok plan_ok misplaced unusable predecessor_later unless_at first_refusal verdict
    sum greatest entries type_in type_of worst allowed cleared released busy may_start dispatch step opening timed greatest_release horizon
    ended response bound outside times_verdict simulation_verdict ran not_run simulated worst_case
    decimal_upto decimal joined text_by timetabled buffer_after worst_timetabled worst_buffer_after
    slack_of is_tightest tightest no_slacks some_slacks slacks_in slacks_of slack_line_of slack_text_by slack_tabled slack_buffer_after
    before place_of record_at in_place constraint_by latest_of arrow chain circle types_of own_rank rank_within rank_by ranks_of ranked
    proposals.before proposals.place_of task_at fits held_until earliest unit_of placed bench_after bench_of_plan schedule_by proposed
    insert split every is_field value_from form_of line_of first_fault line_done read_lines read_text
    refusal_line or_refused answer_to slack_answer_to proposal_answer_to answer_text slack_answer_text proposal_answer_text
    times plan_with plan_due plan_a five_entries order_a bytes answer_table
answers =
    (refl, (refl, (refl, (refl, (refl, (refl, (refl, (refl, tt))))))))
