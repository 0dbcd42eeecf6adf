-- `proposal::placing::constraint_of` meets its contract: the tasks passed are placed. Assumes nothing.
use mathlib.Core.Path.{refl, ap, ◌∙◌}
use Prim.Native.Nat.{◌<◌}
use native.Mathlib.Omega.{arith}
use native.Mathlib.Nat.{lt_of_lt_of_le}
use Rattle.std.proofs.lemmas.List.{length-take, get_or-take}
use Rattle.task_set.proofs.Upto.{upto_none, upto_end}
use Rattle.plan.proofs.Kept.{few_tasks}
use Rattle.adoption_theory.specs.Schedules.{constraint_by}
use Rattle.proposal_theory.specs.Proposals.{Bench, bench_after, by_task}
use Rattle.proposal_order.proofs.Keys.{order_low, start_keys_apart}
use Rattle.proposal.proofs.Steps.{task_fits, placeable, held_early, after_more, starts_fit, in_order}
use Rattle.proposal.specs.Steps.{kept}
use Rattle.proposal.proofs.placing.constraint_of.Goals as goal

pub loop-t-init : goal.loop-t-init
unfolding bench_after
loop-t-init c = upto_none refl

pub shared_ref_as_front-t-items : goal.shared_ref_as_front-t-items
shared_ref_as_front-t-items c = few_tasks _ c.requires.kept

pub place-requires : goal.place-requires
place-requires c =
    let o = c.requires in
    let h = c.loop-t.invariant in
    let m : c.loop-t.t-index < c.args.p.now.tasks = omega (arith, c.loop-t-test.true, length-take c.args.p.now.tasks c.args.order.now) in
    let e = get_or-take c.args.p.now.tasks c.args.order.now c.loop-t.t-index 0 m in
    record { t_lt_most_tasks = rw e (task_fits o h m, placeable o h m); t_bound = rw e (held_early o h m) }

pub loop-t-preserved : goal.loop-t-preserved
loop-t-preserved c =
    let m : c.loop-t.t-index < c.args.p.now.tasks = omega (arith, c.loop-t-test.true, length-take c.args.p.now.tasks c.args.order.now) in
    let e = get_or-take c.args.p.now.tasks c.args.order.now c.loop-t.t-index 0 m in
    after_more c.requires c.loop-t.invariant m (rw e at c.place.ensures)

pub start_keys-keys-requires : goal.start_keys-keys-requires
start_keys-keys-requires c = starts_fit c.requires c.loop-t.invariant

pub by_falling-by_start-requires : goal.by_falling-by_start-requires
by_falling-by_start-requires c = rw c.start_keys-keys.ensures (start_keys_apart _ _ (few_tasks _ c.requires.kept))

pub in_order-chosen-requires : goal.in_order-chosen-requires
in_order-chosen-requires c =
    let few = few_tasks _ c.requires.kept in
    (few, λ i l. lt_of_lt_of_le (rw (c.by_falling-by_start.ensures, c.start_keys-keys.ensures) (order_low (start_keys_apart _ _ few) i l)) few)

pub returns : goal.returns
returns c =
    let o = c.requires in
    let l = c.loop-t in
    in_order _ (few_tasks _ o.kept) (kept l.bench) (starts_fit o l.invariant) c.start_keys-keys.ensures
    c.by_falling-by_start.ensures c.in_order-chosen.ensures
    ∙ ap (λ (b : Bench). constraint_by (by_task c.args.p.now.tasks b)) (upto_end l.invariant (omega (arith, c.loop-t-test.false, few_tasks _ o.kept, length-take c.args.p.now.tasks c.args.order.now)))
