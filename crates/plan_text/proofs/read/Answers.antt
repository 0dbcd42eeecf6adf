-- `plan_text::read` meets its contract where a text is too long. Assumes nothing.
use mathlib.Core.Path.{sym, ◌∙◌}
use Rattle.plan_text.proofs.Texts.{text_long}
use Rattle.plan_text.proofs.read.Goals as goal

pub returns-then-text-gt-MOST_BYTES : goal.returns-then-text-gt-MOST_BYTES
returns-then-text-gt-MOST_BYTES c =
    rw (c.refuse.ensures, c.refused.ensures) (sym (text_long c.args.text.now c.if-text-gt-MOST_BYTES.true))
