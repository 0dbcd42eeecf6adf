-- The check says to plans and orders what the documents say. Assumes nothing.
use mathlib.Core.Path.{refl}
use Rattle.task_set.specs.Bounded.{all, any, count, first, tabulate}
use Rattle.task_set.specs.Sets.{has}
use Rattle.plan.specs.Rules.{time_of, predecessors_of, instant_of, usable, counts_ok, units_ok, pair_ok, pairs_ok, some_type_ok, predecessors_ok, task_ok, instant_ok, plan_ok}
use Rattle.plan.specs.Refusals.{misplaced, unusable, predecessor_later, unless_at, first_refusal, verdict}
use Rattle.worked_examples.specs.PlanA.{times, plan_with, plan_one, plan_due, plan_from, plan_a, plan_warm, five_entries, order_a, order_b}
use Rattle.worked_examples.specs.Rows.{Holds}
use Rattle.worked_examples.specs.Table.{check}
use Rattle.worked_checks.specs.CheckTable.{eight, ones, many, counted, needs, named, paired, plan_table, ordered, length, order_table}

pub plans : Holds plan_table
unfolding all any count first tabulate has time_of predecessors_of instant_of usable counts_ok units_ok
    pair_ok pairs_ok some_type_ok predecessors_ok task_ok instant_ok plan_ok misplaced unusable predecessor_later unless_at
    first_refusal verdict
    check eight ones many counted needs named paired plan_table
plans = (refl, (refl, (refl, (refl, (refl, (refl, (refl, (refl, (refl, (refl, (refl, (refl, (refl, (refl, (refl, (refl, tt))))))))))))))))

pub orders : Holds order_table
unfolding all any count first tabulate has time_of predecessors_of instant_of usable counts_ok units_ok
    pair_ok pairs_ok some_type_ok predecessors_ok task_ok instant_ok plan_ok misplaced unusable predecessor_later unless_at
    first_refusal verdict
    times plan_with plan_one plan_due plan_from plan_a plan_warm five_entries order_a order_b check ones ordered length order_table
orders = (refl, (refl, (refl, (refl, (refl, (refl, (refl, (refl, tt))))))))
