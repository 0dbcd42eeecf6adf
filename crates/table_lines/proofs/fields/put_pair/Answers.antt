-- `table_lines::fields::put_pair` meets its contract: two numbers, one after the other. Assumes nothing.
use Rattle.table_lines.proofs.Stores.{put_then, put_length, room_first, room_then}
use Rattle.table_lines.proofs.fields.put_pair.Goals as goal

pub returns : goal.returns
returns c = put_then c.put_field-next.ensures c.put_field.ensures

pub put_field-next-requires : goal.put_field-next-requires
put_field-next-requires c = room_first _ c.requires

pub put_field-requires : goal.put_field-requires
put_field-requires c = room_then c.put_field-next.ensures _ c.requires

pub shape_of-buffer : goal.shape_of-buffer
shape_of-buffer c = put_length (returns c)
