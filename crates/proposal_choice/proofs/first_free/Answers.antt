-- `proposal_choice::first_free` meets its contract: none so far is free. Assumes nothing.
use borrow.Author.Tests.{le-leb, lt-leb}
use Rattle.task_set.proofs.Search.{searched_none, searched_more, search_found, search_ended}
use Rattle.proposal_choice.proofs.Choices.{slot_found, slot_missing}
use Rattle.proposal_choice.proofs.first_free.Goals as goal

pub loop-u-init : goal.loop-u-init
loop-u-init c = searched_none

pub returns-then-free-base : goal.returns-then-free-base
returns-then-free-base c = slot_found _ _ _ _ c.loop-u-test.true (search_found c.loop-u.invariant (le-leb _ _ c.if-free-base.true))

pub loop-u-preserved : goal.loop-u-preserved
loop-u-preserved c = searched_more c.loop-u.invariant c.loop-u-test.true (lt-leb _ _ c.if-free-base.false)

pub returns : goal.returns
returns c = slot_missing _ _ _ _ (search_ended c.loop-u.invariant c.loop-u-test.false)
