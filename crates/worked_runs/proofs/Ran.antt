-- Runs, journals, simulations and margins on plan A come out as stated. Assumes nothing.
use mathlib.Core.Path.{refl}
use Rattle.task_set.specs.Bounded.{all, any, count, first, tabulate}
use Rattle.task_set.specs.Sets.{has, insert, set_of}
use Rattle.plan.specs.Rules.{time_of, predecessors_of, instant_of, usable, counts_ok, units_ok, pair_ok, pairs_ok, some_type_ok, predecessors_ok, task_ok, instant_ok, plan_ok}
use Rattle.plan.specs.Refusals.{misplaced, unusable, predecessor_later, unless_at, first_refusal, verdict}
use Rattle.dispatch_theory.specs.Sums.{sum, greatest}
use Rattle.runs.specs.Running.{entries, type_in, type_of, worst, allowed, cleared, released, busy, may_start, dispatch, step, opening, timed, over, greatest_release, horizon, ended, response, bound}
use Rattle.runs.specs.Progress.{stage, as_far}
use Rattle.runs.specs.Journal.{idle, overdue, refusal, hear, newly_started, answer, opening_answer, notes_from, answers_from, journal, answers, accepted_count, taken_time}
use Rattle.simulation.specs.Simulated.{outside, times_verdict, simulation_verdict, not_run, simulated, worst_case}
use Rattle.simulation_run.specs.Ran.{ran}
use Rattle.slack.specs.Margins.{slack_of, is_tightest, tightest, no_slacks, some_slacks, slacks_in, slacks_of}
use Rattle.worked_examples.specs.PlanA.{times, plan_with, plan_one, plan_due, plan_from, plan_a, plan_warm, five_entries, order_a, order_b}
use Rattle.worked_examples.specs.Rows.{Holds}
use Rattle.worked_examples.specs.Table.{run, listed, ticks_on, ticks}
use Rattle.worked_runs.specs.RunTable.{stages, worst_at, journal_at, as_far_as, noted, order_and_more, simulate, margins_of, margins, stage_table, journal_table, simulation_table, release_table, margin_table}

pub stages_reached : Holds stage_table
unfolding all any count first tabulate has insert set_of time_of predecessors_of instant_of usable counts_ok units_ok
    pair_ok pairs_ok some_type_ok predecessors_ok task_ok instant_ok plan_ok misplaced unusable predecessor_later unless_at
    first_refusal verdict
    sum greatest entries type_in type_of worst cleared released busy may_start dispatch step opening timed over
    greatest_release horizon ended response bound idle overdue refusal hear newly_started answer opening_answer notes_from answers_from
    journal answers
    times plan_with plan_one plan_due plan_from plan_a plan_warm five_entries order_a order_b
    stage as_far stages worst_at journal_at as_far_as stage_table
stages_reached = (refl, (refl, (refl, (refl, (refl, (refl, (refl, (refl, (refl, (refl, (refl, tt)))))))))))

pub journals : Holds journal_table
unfolding all any count first tabulate has insert set_of time_of predecessors_of instant_of usable counts_ok units_ok
    pair_ok pairs_ok some_type_ok predecessors_ok task_ok instant_ok plan_ok misplaced unusable predecessor_later unless_at
    first_refusal verdict
    sum greatest entries type_in type_of worst cleared released busy may_start dispatch step opening timed over
    greatest_release horizon ended response bound idle overdue refusal hear newly_started answer opening_answer notes_from answers_from
    journal answers
    times plan_with plan_one plan_due plan_from plan_a plan_warm five_entries order_a order_b
    accepted_count taken_time listed ticks_on ticks noted order_and_more journal_table
journals = (refl, (refl, (refl, (refl, (refl, (refl, (refl, (refl, (refl, tt)))))))))

pub simulations : Holds simulation_table
unfolding all any count first tabulate has insert set_of time_of predecessors_of instant_of usable counts_ok units_ok
    pair_ok pairs_ok some_type_ok predecessors_ok task_ok instant_ok plan_ok misplaced unusable predecessor_later unless_at
    first_refusal verdict
    sum greatest entries type_in type_of worst cleared released busy may_start dispatch step opening timed over
    greatest_release horizon ended response bound idle overdue refusal hear newly_started answer opening_answer notes_from answers_from
    journal answers
    times plan_with plan_one plan_due plan_from plan_a plan_warm five_entries order_a order_b
    allowed outside times_verdict simulation_verdict ran not_run simulated worst_case simulate simulation_table
simulations = (refl, (refl, (refl, (refl, (refl, (refl, (refl, (refl, (refl, (refl, tt))))))))))

pub releases : Holds release_table
unfolding all any count first tabulate has insert set_of time_of predecessors_of instant_of usable counts_ok units_ok
    pair_ok pairs_ok some_type_ok predecessors_ok task_ok instant_ok plan_ok misplaced unusable predecessor_later unless_at
    first_refusal verdict
    sum greatest entries type_in type_of worst cleared released busy may_start dispatch step opening timed over
    greatest_release horizon ended response bound idle overdue refusal hear newly_started answer opening_answer notes_from answers_from
    journal answers
    times plan_with plan_one plan_due plan_from plan_a plan_warm five_entries order_a order_b
    run listed ticks_on release_table
releases = (refl, (refl, (refl, tt)))

pub margins_left : Holds margin_table
unfolding all any count first tabulate has insert set_of time_of predecessors_of instant_of usable counts_ok units_ok
    pair_ok pairs_ok some_type_ok predecessors_ok task_ok instant_ok plan_ok misplaced unusable predecessor_later unless_at
    first_refusal verdict
    sum greatest entries type_in type_of worst cleared released busy may_start dispatch step opening timed over
    greatest_release horizon ended response bound idle overdue refusal hear newly_started answer opening_answer notes_from answers_from
    journal answers
    times plan_with plan_one plan_due plan_from plan_a plan_warm five_entries order_a order_b
    outside times_verdict simulation_verdict ran not_run simulated worst_case slack_of is_tightest tightest no_slacks some_slacks slacks_in slacks_of margins_of margins margin_table
margins_left = (refl, (refl, (refl, (refl, (refl, tt)))))
