-- `table_lines::decimal::put_decimal` meets its contract: with the digits of what is left, x stands written. Assumes nothing.
use native.Mathlib.Omega.{arith}
use borrow.Author.Rules.{rules}
use Rattle.table_lines.proofs.Stores.{left_all, left_fewer, left_none}
use Rattle.table_lines.proofs.decimal.put_decimal.Goals as goal

pub loop-i-init : goal.loop-i-init
loop-i-init c = left_all _ _ _ _ (omega arith)

pub loop-i-preserved : goal.loop-i-preserved
loop-i-preserved c = left_fewer c.loop-i.invariant c.loop-i-test.true

pub returns : goal.returns
returns c = record { bytes = left_none c.loop-i.invariant c.loop-i-test.false; end = search rules }
