-- `table_slacks::lengths::slacks_length` meets its contract. Assumes nothing.
use mathlib.Core.Path.{refl, ap, ◌∙◌}
use native.Mathlib.Omega.{arith}
use borrow.Author.Rules.{rules}
use lib.ListN.{length-append}
use mir.Syntax.{w64}
use mir.ValLaws.{to_z-of_z}
use Rattle.slack.specs.Margins.{parts_of}
use Rattle.table_slack_lines.specs.SlackText.{slack_text_by}
use Rattle.table_slacks.proofs.lengths.slacks_length.Goals as goal

pub returns-then-r : goal.returns-then-r
unfolding slack_text_by
returns-then-r c =
    let e = c.parts_of.ensures ∙ ap parts_of (to_z-of_z w64 c.args.r.now.least (search rules)) in
    let l = simp length-append at (rw e at c.signed_length.ensures.0) in
    rw c.if-r.true (simp length-append (omega (arith, c.tasks_length.ensures.1)))

pub returns : goal.returns
unfolding slack_text_by
returns c = rw c.if-r.false refl
