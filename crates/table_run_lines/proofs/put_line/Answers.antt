-- `table_run_lines::put_line` meets its contract: two pairs, one after the other. Assumes nothing.
use Rattle.table_lines.proofs.Stores.{put_then, put_length, room_first, room_then}
use Rattle.table_run_lines.proofs.put_line.Goals as goal

pub returns : goal.returns
returns c = put_then c.put_pair-next.ensures c.put_pair.ensures

pub put_pair-next-requires : goal.put_pair-next-requires
put_pair-next-requires c = room_first _ c.requires

pub put_pair-requires : goal.put_pair-requires
put_pair-requires c = room_then c.put_pair-next.ensures _ c.requires

pub shape_of-buffer : goal.shape_of-buffer
shape_of-buffer c = put_length (returns c)
