-- `plan::time_of` meets its contract. Assumes nothing.
use mathlib.Core.Path.{◌≡◌, ◌∙◌}
use lib.ListN.{get_or}
use borrow.Author.Rules.{rules}
use Rattle.plan.specs.Rules.{pair_place}
use Rattle.plan.proofs.Pairs.{time_by_place}
use Rattle.plan.proofs.time_of.Goals as goal

pub returns : goal.returns
returns c =
    let e : c.unwrap_or.result ≡ get_or c.args.times.now (pair_place c.args.t c.args.k) 0 = search rules in
    e ∙ time_by_place c.args.times.now c.args.t c.args.k c.told-times
