-- `proposal_choice::better_of` meets its contract. Assumes nothing.
use native.Mathlib.Omega.{arith}
use Rattle.proposal_choice.proofs.Choices.{start_bound, in_use, best_skipped, best_stays, best_moves}
use Rattle.proposal_choice.proofs.better_of.Goals as goal

pub soonest-requires : goal.soonest-requires
soonest-requires c =
    let p = c.requires in
    let u = in_use p.1.1.1 c.time_of-time.ensures c.if-time-best.false in
    (p.0, (p.1.1.0.some_units _ u, p.1.1.0.few_units _ u))

pub overflow_add-finish : goal.overflow_add-finish
overflow_add-finish c =
    omega (arith, start_bound c.requires.1.0 c.requires.1.1.0 c.soonest.ensures, c.requires.1.1.0.short c.args.k)

pub returns-then-finish-best : goal.returns-then-finish-best
returns-then-finish-best c =
    let p = c.requires in
    best_moves p.1.1.1 c.time_of-time.ensures c.soonest.ensures p.0
    c.if-time-best.false (omega (arith, c.if-finish-best.true))

pub overflow_add-held : goal.overflow_add-held
overflow_add-held c = omega (arith, c.requires.1.1.0.short c.args.k)

pub returns-then-time-best : goal.returns-then-time-best
returns-then-time-best c = best_skipped c.requires.1.1.1 c.time_of-time.ensures c.if-time-best.true

pub returns : goal.returns
returns c = best_stays c.requires.1.1.1 c.time_of-time.ensures c.soonest.ensures (omega (arith, c.if-finish-best.false))
