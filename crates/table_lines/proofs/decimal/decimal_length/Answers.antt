-- `table_lines::decimal::decimal_length` meets its contract. Assumes nothing.
use mathlib.Core.Path.{sym}
use native.Mathlib.Omega.{arith}
use Rattle.table_lines.proofs.Digits.{length_one, length_power}
use Rattle.table_lines.proofs.decimal.decimal_length.Goals as goal

pub returns-in-Some : goal.returns-in-Some
returns-in-Some c =
    let e = c.in-Some.ensures in (sym (length_power _ _ e.bound e.power_le e.next_power_gt), omega (arith, e.bound))

pub returns-in-None : goal.returns-in-None
returns-in-None c = (sym (length_one c.args.x (omega (arith, c.in-None.ensures.none))), omega arith)
