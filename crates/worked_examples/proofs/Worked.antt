-- The worked examples P1 to P12 come out as the documents have them: one claim. Assumes nothing.
use mathlib.Core.Path.{refl}
use Rattle.task_set.specs.Bounded.{all, any, count, first, tabulate}
use Rattle.task_set.specs.Sets.{has, insert, set_of}
use Rattle.plan.specs.Rules.{time_of, predecessors_of, instant_of, usable, counts_ok, units_ok, pair_ok, pairs_ok, some_type_ok, predecessors_ok, task_ok, instant_ok, plan_ok}
use Rattle.plan.specs.Refusals.{misplaced, unusable, predecessor_later, unless_at, first_refusal, verdict}
use Rattle.dispatch_theory.specs.Sums.{sum, greatest}
use Rattle.runs.specs.Running.{entries, type_in, type_of, worst, cleared, released, busy, may_start, dispatch, step, opening, timed, over, greatest_release, horizon, ended, response}
use Rattle.runs.specs.Journal.{idle, overdue, refusal, hear, newly_started, answer, opening_answer, notes_from, answers_from, journal, answers}
use Rattle.worked_examples.specs.PlanA.{times, plan_with, plan_one, plan_due, plan_from, plan_a, plan_warm, five_entries, order_a, order_b}
use Rattle.worked_examples.specs.Rows.{Holds}
use Rattle.worked_examples.specs.Table.{run, check, listed, ticks_on, ticks, finishes, table}

pub worked : Holds table
unfolding all any count first tabulate has insert set_of time_of predecessors_of instant_of usable counts_ok units_ok
    pair_ok pairs_ok some_type_ok predecessors_ok task_ok instant_ok plan_ok misplaced unusable predecessor_later unless_at
    first_refusal verdict
    sum greatest entries type_in type_of worst cleared released busy may_start dispatch step opening timed over
    greatest_release horizon ended response idle overdue refusal hear newly_started answer opening_answer notes_from answers_from
    journal answers
    times plan_with plan_one plan_due plan_from plan_a plan_warm five_entries order_a order_b run check listed ticks_on ticks finishes table
worked =
    (refl, (refl, (refl, (refl, (refl, (refl, (refl, (refl, (refl, (refl, (refl, (refl, (refl, (refl, (refl, tt)))))))))))))))
