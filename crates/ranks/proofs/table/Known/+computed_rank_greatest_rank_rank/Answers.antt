-- The cycle of calls of `rank`, `computed_rank` and `greatest_rank`: each call is for less, and each gives the ranks that it says.
-- Assumes nothing.
use mathlib.Core.Path.{refl}
use Rattle.ranks.proofs.Found.{falls_to, successors_tasks, successors_fall, member_task, member_falls, others_tasks, others_fall, noted_more, found_known, found_now, rank_fits, greatest_empty, greatest_both}
use Rattle.ranks.proofs.table.Known.+computed_rank_greatest_rank_rank.Goals as goal

-- ---- rank

pub rank-returns-then-known-ne0-clause-found : goal.rank-returns-then-known-ne0-clause-found
rank-returns-then-known-ne0-clause-found t c = found_known c.args.self.now.noted refl c.if-known-ne0.true

-- ---- greatest_rank

pub greatest_rank-returns-then-remaining-eq0-clause-found :
    goal.greatest_rank-returns-then-remaining-eq0-clause-found
greatest_rank-returns-then-remaining-eq0-clause-found t c = greatest_empty c.if-remaining-eq0.true

pub greatest_rank-rank-one-requires : goal.greatest_rank-rank-one-requires
greatest_rank-rank-one-requires t c =
    let some = c.if-remaining-eq0.false in
    rw c.lowest_member-t.ensures (
      falls_to (member_falls c.ranges.remaining.fits some c.requires c.args.self.now.plan.now.predecessors) c.decreases,
      member_task c.ranges.remaining.fits some c.requires,
    )

pub greatest_rank-greatest_rank-most-requires : goal.greatest_rank-greatest_rank-most-requires
greatest_rank-greatest_rank-most-requires t c =
    let some = c.if-remaining-eq0.false in
    rw (c.rank-one.ensures.kept, c.without_lowest-left.ensures) (
      falls_to (others_fall c.ranges.remaining.fits some c.requires c.args.self.now.plan.now.predecessors) c.decreases,
      others_tasks c.ranges.remaining.fits some c.requires,
    )

pub greatest_rank-returns-clause-found : goal.greatest_rank-returns-clause-found
greatest_rank-returns-clause-found t c =
    rw c.max.ensures
    (greatest_both c.ranges.remaining.fits c.if-remaining-eq0.false c.requires c.lowest_member-t.ensures
    c.without_lowest-left.ensures c.rank-one.ensures.found
    (rw c.rank-one.ensures.kept at c.greatest_rank-most.ensures.found))

-- ---- computed_rank

pub computed_rank-greatest_rank-most-requires : goal.computed_rank-greatest_rank-most-requires
computed_rank-greatest_rank-most-requires t c =
    let ready = c.args.self.now.ready in
    let s = c.successors-after.ensures in (
      falls_to (successors_fall ready c.args.t _ c.requires s) c.decreases,
      successors_tasks ready c.args.t _ s,
    )

pub computed_rank-overflow_add-r : goal.computed_rank-overflow_add-r
computed_rank-overflow_add-r t c =
    let most = c.greatest_rank-most.ensures in
    record { fits = rank_fits c.args.self.now.ready c.requires c.successors-after.ensures (rw most.kept at c.own_rank.ensures) most.found }

pub computed_rank-invariant_of-self : goal.computed_rank-invariant_of-self
computed_rank-invariant_of-self t c =
    let most = c.greatest_rank-most.ensures in
    let now = found_now c.args.self.now.ready c.requires c.successors-after.ensures (rw most.kept at c.own_rank.ensures) most.found
    c.args.self.now.noted in
    record { ready = c.greatest_rank-most.new.self.ready; noted = rw most.kept (noted_more c.args.self.now.noted now.grown) }

pub computed_rank-returns-clause-found : goal.computed_rank-returns-clause-found
computed_rank-returns-clause-found t c =
    let most = c.greatest_rank-most.ensures in
    found_now c.args.self.now.ready c.requires c.successors-after.ensures (rw most.kept at c.own_rank.ensures) most.found
    c.args.self.now.noted
