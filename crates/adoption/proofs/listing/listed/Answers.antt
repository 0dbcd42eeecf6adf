-- `adoption::listing::listed` meets its contract. Assumes nothing.
use mathlib.Core.Path.{◌∙◌}
use Rattle.adoption.proofs.Reading.{zeros, read_all}
use Rattle.adoption.proofs.listing.listed.Goals as goal

pub returns : goal.returns
returns c =
    let d = c.default-out.ensures in
    c.columns.ensures
    ∙ read_all c.args.records.now c.min-n.ensures c.copy_from_slice.ensures.after (zeros _ d.0 d.1.0 d.1.1.0 d.1.1.1)
