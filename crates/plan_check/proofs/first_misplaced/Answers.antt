-- `plan_check::first_misplaced` meets its contract: no fault so far, and `seen` holds the tasks passed. Assumes nothing.
use mathlib.Core.Path.{sym, ◌∙◌}
use Rattle.task_set.proofs.Search.{searched_none, searched_more, found_at, found_none}
use Rattle.plan_check.proofs.Placing.{holds_none, holds_more, misplaced_by}
use Rattle.plan_check.proofs.first_misplaced.Goals as goal

pub returns-then-p-t : goal.returns-then-p-t
returns-then-p-t c =
    let l = c in
    found_at l.loop-i.invariant.0 c.loop-i-test.true (sym (misplaced_by l.loop-i.invariant.1 l.requires c.contains.ensures)
    ∙ c.if-p-t.true)

pub loop-i-preserved : goal.loop-i-preserved
loop-i-preserved c =
    let l = c in (
      searched_more l.loop-i.invariant.0 c.loop-i-test.true
          (sym (misplaced_by l.loop-i.invariant.1 l.requires c.contains.ensures)
          ∙ c.if-p-t.false),
      rw c.inserted-seen.ensures (holds_more l.loop-i.invariant.1),
    )

pub loop-i-init : goal.loop-i-init
loop-i-init c = (searched_none, holds_none)

pub returns : goal.returns
returns c = found_none c.loop-i.invariant.0 c.loop-i-test.false
