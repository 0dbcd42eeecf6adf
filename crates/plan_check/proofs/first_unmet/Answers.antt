-- `plan_check::first_unmet` meets its contract: no fault so far, and `placed` holds the tasks passed. Assumes nothing.
use mathlib.Core.Path.{sym, ap, ◌∙◌}
use mathlib.Core.Bool.{not}
use Rattle.task_set.proofs.Search.{searched_none, searched_more, found_at, found_none}
use Rattle.plan_check.proofs.Placing.{holds_none, holds_more, unmet_by}
use Rattle.plan_check.proofs.first_unmet.Goals as goal

pub returns-then-not-is_subset : goal.returns-then-not-is_subset
returns-then-not-is_subset c =
    let l = c in
    found_at l.loop-i.invariant.0 c.loop-i-test.true
    (sym (unmet_by l.loop-i.invariant.1 _ c.predecessors_of.ensures c.is_subset.ensures)
    ∙ ap not c.if-not-is_subset.true)

pub loop-i-preserved : goal.loop-i-preserved
loop-i-preserved c =
    let l = c in (
      searched_more l.loop-i.invariant.0 c.loop-i-test.true
          (sym (unmet_by l.loop-i.invariant.1 _ c.predecessors_of.ensures
          c.is_subset.ensures) ∙ ap not c.if-not-is_subset.false),
      rw c.inserted-placed.ensures (holds_more l.loop-i.invariant.1),
    )

pub loop-i-init : goal.loop-i-init
loop-i-init c = (searched_none, holds_none)

pub returns : goal.returns
returns c = found_none c.loop-i.invariant.0 c.loop-i-test.false
