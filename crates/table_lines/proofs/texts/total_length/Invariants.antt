-- `table_lines::texts::total_length` meets its contract: `sum` is the length of the texts before i. Assumes nothing.
use Rattle.std.proofs.Common.{◌≡◌, ◌≤◌, ◌<◌, ◌*◌, List, length, ℕ}
use Rattle.table_lines.specs.Texts.{joined}
use Rattle.table_lines.proofs.texts.total_length.Given as goal

abbrev pub invariant-loop-i : goal.invariant-loop-i
invariant-loop-i g l =
    (l.sum ≤ l.i * 85)
    × ((text : ℕ → List ℕ) → ((i k : ℕ) → i < l.n → goal.F-post g l.length_of i k → k ≡ length (text i)) → l.sum ≡ length (joined text l.i))
