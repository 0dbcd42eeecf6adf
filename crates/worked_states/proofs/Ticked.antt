-- Start, ticks, 12 and replay say to states of plan A what is stated. Assumes nothing.
use mathlib.Core.Path.{refl}
use Rattle.task_set.specs.Bounded.{all, any, count, first, tabulate}
use Rattle.task_set.specs.Sets.{has, insert, set_of}
use Rattle.plan.specs.Rules.{time_of, predecessors_of, instant_of, usable, counts_ok, units_ok, pair_ok, pairs_ok, some_type_ok, predecessors_ok, task_ok, instant_ok, plan_ok}
use Rattle.plan.specs.Refusals.{misplaced, unusable, predecessor_later, unless_at, first_refusal, verdict}
use Rattle.runs.specs.Running.{entries, type_in, type_of, worst, cleared, released, busy, may_start, dispatch, step, opening, over}
use Rattle.runs.specs.Journal.{idle, overdue, refusal, newly_started}
use Rattle.live.specs.States.{is_started, state_of}
use Rattle.live.specs.Soundness.{checked, started_fits, finished_started, start_came, start_released, finish_came, unused_zero, time_left, units_enough, instant_low, task_sound, is_sound}
use Rattle.live.specs.Ticks.{started, tick_verdict, ticked}
use Rattle.replay.specs.Lists.{state_after, said_after}
use Rattle.replay.specs.Replays.{replayed}
use Rattle.worked_examples.specs.PlanA.{times, plan_with, plan_one, plan_long, plan_due, plan_from, plan_a, plan_warm, five_entries, order_a}
use Rattle.worked_examples.specs.Rows.{Holds}
use Rattle.worked_examples.specs.Table.{listed}
use Rattle.worked_states.specs.StateTable.{opened, judged, in_run, at_end, near_end, start_table, sound_table, replay_table}

pub starts : Holds start_table
unfolding all any count first tabulate has insert set_of time_of predecessors_of instant_of usable counts_ok units_ok
    pair_ok pairs_ok some_type_ok predecessors_ok task_ok instant_ok plan_ok misplaced unusable predecessor_later unless_at first_refusal verdict
    entries type_in type_of worst cleared released busy may_start dispatch step opening over idle overdue refusal newly_started
    is_started state_of checked started_fits finished_started start_came start_released finish_came unused_zero time_left units_enough instant_low
    task_sound is_sound started tick_verdict ticked times plan_with plan_one plan_long plan_due plan_from plan_a plan_warm five_entries order_a
    state_after said_after listed opened start_table
starts =
    (refl, (refl, (refl, (refl, (refl, (refl, (refl, tt)))))))

pub sound_states : Holds sound_table
unfolding all any count first tabulate has insert set_of time_of predecessors_of instant_of usable counts_ok units_ok
    pair_ok pairs_ok some_type_ok predecessors_ok task_ok instant_ok plan_ok misplaced unusable predecessor_later unless_at first_refusal verdict
    entries type_in type_of worst cleared released busy may_start dispatch step opening over idle overdue refusal newly_started
    is_started state_of checked started_fits finished_started start_came start_released finish_came unused_zero time_left units_enough instant_low
    task_sound is_sound started tick_verdict ticked times plan_with plan_one plan_long plan_due plan_from plan_a plan_warm five_entries order_a
    judged in_run at_end near_end sound_table
sound_states =
    (refl, (refl, (refl, (refl, (refl, (refl, (refl, (refl, (refl, (refl, (refl, (refl, (refl, (refl, (refl, tt)))))))))))))))

pub replays : Holds replay_table
unfolding all any count first tabulate has insert set_of time_of predecessors_of instant_of usable counts_ok units_ok
    pair_ok pairs_ok some_type_ok predecessors_ok task_ok instant_ok plan_ok misplaced unusable predecessor_later unless_at first_refusal verdict
    entries type_in type_of worst cleared released busy may_start dispatch step opening over idle overdue refusal newly_started
    is_started state_of checked started_fits finished_started start_came start_released finish_came unused_zero time_left units_enough instant_low
    task_sound is_sound started tick_verdict ticked times plan_with plan_one plan_long plan_due plan_from plan_a plan_warm five_entries order_a
    state_after said_after replayed replay_table
replays =
    (refl, (refl, (refl, (refl, (refl, (refl, (refl, tt)))))))
