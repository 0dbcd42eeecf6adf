-- The lines of slacks: their lengths, and the line of a task by its deadline. Assumes nothing.
use mathlib.Core.Path.{◌≡◌, refl}
use mathlib.Core.List.{List, []}
use Prim.Native.Nat.{ℕ, ◌+◌}
use native.Mathlib.Omega.{arith}
use borrow.Author.Tests.{lt-ltb, le-ltb}
use lib.IntN.{ℤ}
use lib.ListN.{length, length-append}
use Rattle.plan.specs.Rules.{deadline_of}
use Rattle.plan.specs.Refusals.{entry_at}
use Rattle.slack.specs.declared.Parts.{Parts}
use Rattle.slack.specs.Margins.{slack_at, parts_of}
use Rattle.table_lines.specs.Decimal.{decimal}
use Rattle.table_slack_lines.specs.SlackText.{signed_field, slack_line, slack_line_of}

pub slack_length : (t d f : ℕ) (x : Parts) → length (slack_line t d f x)
    ≡ length (decimal t) + length (decimal d) + length (decimal f) + length (signed_field x 10) + 3
slack_length t d f x = simp length-append (omega arith)

module _ (deadlines finishes : List ℕ) (slacks : List ℤ) (t : ℕ) {d : ℕ} (e : d ≡ deadline_of deadlines t) where
  pub not_due : d ≡ 0 → slack_line_of deadlines finishes slacks t ≡ []
  unfolding slack_line_of
  not_due z = rw (le-ltb 0 (deadline_of deadlines t) (omega arith)) refl

  -- from what the loops find: the deadline, the finish and the slack
  pub due : (d ≡ 0 → ⊥) → {f : ℕ} {y : ℤ} {x : Parts} → f ≡ entry_at finishes t → x ≡ parts_of y → y ≡ slack_at slacks t
      → slack_line_of deadlines finishes slacks t ≡ slack_line t d f x
  unfolding slack_line_of
  due g q r s = rw (lt-ltb 0 (deadline_of deadlines t) (omega (arith, g)), q, r, s, e) refl
