-- `table_lines::fields::put_field` meets its contract. Assumes nothing.
use mathlib.Core.List.{[], ◌∷◌}
use native.Mathlib.Omega.{arith}
use lib.ListN.{length-set}
use Rattle.table_lines.proofs.Stores.{put_byte, put_then, put_length, room_first, room_then}
use Rattle.table_lines.proofs.fields.put_field.Goals as goal

pub put_decimal-end-requires : goal.put_decimal-end-requires
put_decimal-end-requires c = room_first _ c.requires

pub bounds-buffer-end : goal.bounds-buffer-end
bounds-buffer-end c = omega (arith, room_then c.put_decimal-end.ensures (c.args.mark ∷ []) c.requires)

pub overflow_add-result : goal.overflow_add-result
overflow_add-result c =
    omega (arith, room_then c.put_decimal-end.ensures (c.args.mark ∷ []) c.requires, put_length c.put_decimal-end.ensures)

pub shape_of-buffer : goal.shape_of-buffer
shape_of-buffer c = simp length-set (put_length c.put_decimal-end.ensures)

pub returns : goal.returns
returns c = put_then c.put_decimal-end.ensures (put_byte _ _ _)
