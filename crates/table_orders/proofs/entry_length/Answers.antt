-- `table_orders::entry_length` meets its contract. Assumes nothing.
use native.Mathlib.Omega.{arith}
use Rattle.table_orders.proofs.OrderLines.{entry_length}
use Rattle.table_orders.proofs.entry_length.Goals as goal

pub returns : goal.returns
returns c = (omega (arith, entry_length c.args.t c.args.k), omega arith)
