-- `plan_rules::no_type_from` meets its contract: `none` tells of the types passed. Assumes nothing.
use mathlib.Core.Path.{sym}
use borrow.Author.Rules.{rules}
use borrow.Author.Tests.{lt-ltb, le-ltb}
use Rattle.plan.specs.Steps.{no_type_from}
use Rattle.task_set.proofs.Truth.{or_left}
use Rattle.task_set.proofs.Bounded.{all_intro, all_next}
use Rattle.task_set.proofs.Upto.{upto_more, upto_end}
use Rattle.plan_rules.proofs.no_type_from.Goals as goal

pub loop-k-preserved : goal.loop-k-preserved
loop-k-preserved c =
    let l = c.loop-k.invariant in
    (upto_more c.loop-k-test.true (rw (l.0.is, c.is_usable.ensures, all_next, le-ltb _ _ l.1)), search rules)

pub returns : goal.returns
unfolding no_type_from
returns c = upto_end c.loop-k.invariant.0 c.loop-k-test.false

pub loop-k-init : goal.loop-k-init
loop-k-init c = (record { within = c.requires; is = sym (all_intro _ _ (λ k l. or_left _ (lt-ltb _ _ l))) }, search rules)
