-- `table_lines::decimal::put_decimal` meets its contract: with the digits of what is left, x stands written. Assumes nothing.
use Rattle.table_lines.proofs.Stores.{Left}
use Rattle.table_lines.proofs.decimal.put_decimal.Given as goal

abbrev pub invariant-loop-i : goal.invariant-loop-i
invariant-loop-i l = Left l.initial.buffer l.at l.x l.buffer l.i l.left
