-- `table_lines::texts::put_each` meets its contract: the texts before i stand in the buffer. Assumes nothing.
use Rattle.std.proofs.Common.{List, ℕ}
use Rattle.table_lines.specs.Texts.{joined}
use Rattle.table_lines.specs.Steps.{Put, Writes}
use Rattle.table_lines.proofs.texts.put_each.Given as goal

abbrev pub invariant-loop-i : goal.invariant-loop-i
invariant-loop-i g l =
    (text : ℕ → List ℕ) → Writes text l.n (goal.F-post g l.put) → Put l.initial.buffer 0 (joined text l.i) l.buffer l.at
