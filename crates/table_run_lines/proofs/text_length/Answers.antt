-- `table_run_lines::text_length` meets its contract. Assumes nothing.
use native.Mathlib.Omega.{arith}
use lib.ListN.{length-append}
use Rattle.table_run_lines.specs.RunText.{text_by}
use Rattle.table_run_lines.proofs.text_length.Goals as goal

pub returns : goal.returns
unfolding text_by
returns c = simp length-append (omega arith)
