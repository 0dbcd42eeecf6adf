-- The bench proposes the orders that are stated. Assumes nothing.
use mathlib.Core.Path.{refl}
use Rattle.task_set.specs.Bounded.{all, any, count, first, tabulate}
use Rattle.task_set.specs.Sets.{has}
use Rattle.plan.specs.Rules.{time_of, predecessors_of, instant_of, usable, counts_ok, units_ok, pair_ok, pairs_ok, some_type_ok, predecessors_ok, task_ok, instant_ok, plan_ok}
use Rattle.dispatch_theory.specs.Sums.{sum, greatest}
use Rattle.runs.specs.Running.{entries, type_in, type_of, worst, cleared, released, busy, may_start, dispatch, step, opening, timed, greatest_release, horizon, ended, response, bound}
use Rattle.adoption_theory.specs.Schedules.{greatest_finish, before, place_of, record_at, in_place, constraint_by}
use Rattle.simulation_waits.specs.Waits.{latest_of}
use Rattle.ranks_arrows.specs.Arrows.{arrow, chain, circle}
use Rattle.ranks.specs.Ranks.{types_of, own_rank, rank_within, rank_by, ranks_of, ranked}
use Rattle.proposal_theory.specs.Proposals.{task_at, fits, held_until, earliest, unit_of, placed, bench_after, bench_of_plan, schedule_by, proposed}
use Rattle.proposal_theory.specs.Proposals as proposals
use Rattle.worked_examples.specs.PlanA.{times, plan_with, plan_due, plan_from, plan_a, plan_warm}
use Rattle.worked_examples.specs.Rows.{Holds}
use Rattle.worked_schedules.specs.Plans.{on_two_types, three_tasks, plan_level, plan_gap, plan_mean, plan_late, plan_ring}
use Rattle.worked_schedules.specs.ProposalTable.{proposes, proposes_not, scheduled_on, proposal_table}

pub proposals_made : Holds proposal_table
unfolding all any count first tabulate has time_of predecessors_of instant_of usable counts_ok units_ok
    pair_ok pairs_ok some_type_ok predecessors_ok task_ok instant_ok plan_ok sum greatest entries type_in type_of worst cleared released busy
    may_start dispatch step opening timed greatest_release horizon ended response bound
    greatest_finish before place_of record_at in_place constraint_by latest_of arrow chain circle types_of own_rank rank_within rank_by ranks_of
    ranked proposals.before proposals.place_of task_at fits held_until earliest unit_of placed bench_after bench_of_plan schedule_by proposed
    times plan_with plan_due plan_from plan_a plan_warm on_two_types three_tasks plan_level plan_gap plan_mean plan_late plan_ring proposes
    proposes_not scheduled_on proposal_table
proposals_made = (refl, (refl, (refl, (refl, (refl, (refl, (refl, (refl, (refl, (refl, (refl, (refl, (refl, tt)))))))))))))
