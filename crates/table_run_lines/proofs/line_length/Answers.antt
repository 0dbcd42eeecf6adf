-- `table_run_lines::line_length` meets its contract. Assumes nothing.
use native.Mathlib.Omega.{arith}
use Rattle.table_run_lines.proofs.Length.{line_length}
use Rattle.table_run_lines.proofs.line_length.Goals as goal

pub returns : goal.returns
returns c = let a = c.args in
    (omega (arith, line_length a.t a.k a.s a.f), omega arith)
