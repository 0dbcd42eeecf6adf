-- `plan::predecessors_of` meets its contract. Assumes nothing.
use mathlib.Core.Path.{◌≡◌, ◌∙◌}
use lib.ListN.{get_or}
use borrow.Author.Rules.{rules}
use Rattle.plan.specs.Rules.{predecessors_of, most_tasks}
use Rattle.plan.proofs.Pairs.{entry_or_none}
use Rattle.plan.proofs.predecessors_of.Goals as goal

pub returns : goal.returns
unfolding predecessors_of
returns c =
    let e : c.unwrap_or.result ≡ get_or c.args.predecessors.now c.args.t 0 = search rules in
    e ∙ entry_or_none c.args.predecessors.now most_tasks c.args.t c.told-predecessors
