-- How many bytes a line of a timetable has. Assumes nothing.
use mathlib.Core.Path.{◌≡◌}
use Prim.Native.Nat.{ℕ, ◌+◌}
use native.Mathlib.Omega.{arith}
use lib.ListN.{length, length-append}
use Rattle.table_lines.specs.Decimal.{decimal}
use Rattle.table_run_lines.specs.RunText.{line}

pub line_length : (t k s f : ℕ)
    → length (line t k s f) ≡ length (decimal t) + length (decimal k) + length (decimal s) + length (decimal f) + 4
line_length t k s f = simp length-append (omega arith)
