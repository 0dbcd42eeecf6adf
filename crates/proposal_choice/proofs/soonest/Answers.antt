-- `proposal_choice::soonest` meets its contract: none so far is free by then. Assumes nothing.
use native.Mathlib.Omega.{arith}
use Rattle.proposal_choice.proofs.Choices.{awaited_none, awaited_more, soonest_held, soonest_later}
use Rattle.proposal_choice.proofs.soonest.Goals as goal

pub loop-u-preserved : goal.loop-u-preserved
loop-u-preserved c =
    rw c.min-start.ensures (awaited_more c.loop-u.invariant c.loop-u-test.true (omega (arith, c.if-instant-held.false)))

pub loop-u-init : goal.loop-u-init
loop-u-init c = awaited_none c.requires.1.0

pub returns-then-instant-held : goal.returns-then-instant-held
returns-then-instant-held c = soonest_held c.loop-u-test.true (omega (arith, c.if-instant-held.true))

pub returns : goal.returns
returns c = soonest_later c.loop-u.invariant c.loop-u-test.false
