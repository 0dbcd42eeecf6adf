-- What follows from the limits on plan A comes out as stated. Assumes nothing.
use mathlib.Core.Path.{refl}
use Rattle.task_set.specs.Bounded.{all, any, count, first, tabulate}
use Rattle.task_set.specs.Sets.{has, insert, set_of}
use Rattle.plan.specs.Rules.{time_of, predecessors_of, instant_of, usable, counts_ok, units_ok, pair_ok, pairs_ok, some_type_ok, predecessors_ok, task_ok, instant_ok, plan_ok}
use Rattle.plan.specs.Refusals.{misplaced, unusable, predecessor_later, unless_at, first_refusal, verdict}
use Rattle.dispatch_theory.specs.Sums.{sum, greatest}
use Rattle.runs.specs.Running.{entries, type_in, type_of, worst, allowed, cleared, released, busy, may_start, dispatch, step, opening, timed, over, greatest_release, horizon, ended, response, bound}
use Rattle.runs.specs.Progress.{stage}
use Rattle.runs.specs.Journal.{idle, overdue, refusal, hear, newly_started, answer, opening_answer, notes_from, answers_from, journal, answers}
use Rattle.simulation.specs.Simulated.{outside, times_verdict, simulation_verdict, not_run, simulated, worst_case}
use Rattle.simulation_run.specs.Ran.{ran}
use Rattle.slack.specs.Margins.{slack_of, is_tightest, tightest, no_slacks, some_slacks, slacks_in, slacks_of}
use Rattle.worked_examples.specs.PlanA.{times, plan_with, plan_one, plan_long, plan_due, plan_from, plan_a, plan_warm, five_entries, order_a, order_b}
use Rattle.worked_examples.specs.Rows.{Holds}
use Rattle.worked_examples.specs.Table.{check}
use Rattle.worked_runs.specs.LimitTable.{simulate, margins_of, margins, lasting, due, from, reached, limit_table}

pub limits : Holds limit_table
unfolding all any count first tabulate has insert set_of time_of predecessors_of instant_of usable counts_ok units_ok
    pair_ok pairs_ok some_type_ok predecessors_ok task_ok instant_ok plan_ok misplaced unusable predecessor_later unless_at
    first_refusal verdict
    sum greatest entries type_in type_of worst cleared released busy may_start dispatch step opening timed over
    greatest_release horizon ended response bound idle overdue refusal hear newly_started answer opening_answer notes_from answers_from
    journal answers
    times plan_with plan_one plan_long plan_due plan_from plan_a plan_warm five_entries order_a order_b
    outside times_verdict simulation_verdict ran not_run simulated worst_case stage check slack_of is_tightest tightest no_slacks some_slacks slacks_in slacks_of allowed margins_of margins lasting due from reached simulate limit_table
limits = (refl, (refl, (refl, (refl, (refl, (refl, (refl, (refl, (refl, (refl, tt))))))))))
