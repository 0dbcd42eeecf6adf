-- The slack of a task, by its deadline. Assumes nothing.
use mathlib.Core.Path.{◌≡◌, refl}
use mathlib.Core.List.{List}
use Prim.Native.Nat.{ℕ}
use native.Mathlib.Omega.{arith}
use borrow.Author.Tests.{lt-ltb, le-ltb}
use lib.IntN.{pos, ◌-ℤ◌}
use lib.ListN.{get_or}
use Rattle.plan.specs.Rules.{deadline_of}
use Rattle.slack.specs.Margins.{slack_of}

module _ (deadlines finishes : List ℕ) (t : ℕ) {d : ℕ} (e : d ≡ deadline_of deadlines t) where
  pub slack_none : d ≡ 0 → pos 0 ≡ slack_of deadlines finishes t
  unfolding slack_of
  slack_none z = rw (le-ltb 0 (deadline_of deadlines t) (omega arith)) refl

  pub slack_due : (d ≡ 0 → ⊥) → pos d -ℤ pos (get_or finishes t 0) ≡ slack_of deadlines finishes t
  unfolding slack_of
  slack_due f = rw (lt-ltb 0 (deadline_of deadlines t) (omega (arith, f)), e) refl
