-- `table_lines::bytes::put_bytes` meets its contract. Assumes nothing.
use native.Mathlib.Omega.{arith}
use Rattle.table_lines.proofs.Stores.{put_part}
use Rattle.table_lines.proofs.bytes.put_bytes.Goals as goal

pub returns : goal.returns
returns c = put_part _ _ _ _ c.requires c.copy_from_slice.ensures.after (omega arith)
