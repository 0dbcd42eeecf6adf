-- Schedules of plan A are taken, or refused, as stated. Assumes nothing.
use mathlib.Core.Path.{refl}
use Rattle.task_set.specs.Bounded.{all, any, count, first, tabulate}
use Rattle.task_set.specs.Sets.{has}
use Rattle.plan.specs.Rules.{time_of, predecessors_of, instant_of, usable, counts_ok, units_ok, pair_ok, pairs_ok, some_type_ok, predecessors_ok, task_ok, instant_ok, plan_ok}
use Rattle.plan.specs.Refusals.{misplaced, unusable, unless_at}
use Rattle.dispatch_theory.specs.Sums.{sum, greatest}
use Rattle.runs.specs.Running.{entries, type_in, type_of, worst, cleared, released, busy, may_start, dispatch, step, opening, timed, greatest_release, horizon, ended, response, bound}
use Rattle.adoption_theory.specs.Schedules.{column, listed as scheduled, greatest_finish, mistimed, holds, hasty, early, crowded, unmeetable, judged, before, place_of, record_at, in_place, constraint_by, adopted}
use Rattle.worked_examples.specs.PlanA.{times, plan_with, plan_long, plan_due, plan_from, plan_a, plan_warm}
use Rattle.worked_examples.specs.Rows.{Holds}
use Rattle.worked_schedules.specs.ScheduleTable.{adopt_on, adopt, adopt_fully, schedule_table}

pub schedules : Holds schedule_table
unfolding all any count first tabulate has time_of predecessors_of instant_of usable counts_ok units_ok
    pair_ok pairs_ok some_type_ok predecessors_ok task_ok instant_ok plan_ok sum greatest entries type_in type_of worst cleared released busy
    may_start dispatch step opening timed greatest_release horizon ended response bound
    misplaced unusable unless_at column scheduled greatest_finish mistimed holds hasty early crowded unmeetable judged before place_of record_at in_place constraint_by adopted
    times plan_with plan_long plan_due plan_from plan_a plan_warm adopt_on adopt adopt_fully schedule_table
schedules =
    (refl, (refl, (refl, (refl, (refl, (refl, (refl, (refl, (refl, (refl, (refl, (refl, (refl, (refl, (refl, tt)))))))))))))))
