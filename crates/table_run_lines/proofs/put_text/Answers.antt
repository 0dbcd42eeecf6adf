-- `table_run_lines::put_text` meets its contract: the lines, then the last. Assumes nothing.
use Rattle.table_run_lines.specs.RunText.{text_by}
use Rattle.table_lines.proofs.Stores.{put_then, put_length, room_first, room_then}
use Rattle.table_run_lines.proofs.put_text.Goals as goal

pub put_lines-at-requires : goal.put_lines-at-requires
unfolding text_by
put_lines-at-requires c = let pre = c.requires in (pre.0, room_first _ pre.1)

pub put_last-requires : goal.put_last-requires
unfolding text_by
put_last-requires c =
    room_then c.put_lines-at.ensures _ c.requires.1

pub returns : goal.returns
unfolding text_by
returns c = put_then c.put_lines-at.ensures c.put_last.ensures

pub shape_of-buffer : goal.shape_of-buffer
shape_of-buffer c = put_length (returns c)
