-- `table_lines::refusal::put_refusal` meets its contract: the word and two numbers, one after the other. Assumes nothing.
use mathlib.Core.Path.{◌∙◌}
use mathlib.Core.List.{List}
use Prim.Native.Nat.{ℕ, ◌+◌, ◌≤◌}
use lib.ListN.{length}
use Rattle.table_lines.specs.Decimal.{decimal}
use native.Mathlib.Omega.{arith}
use Rattle.table_lines.specs.Refusal.{refusal_line}
use Rattle.table_lines.specs.Steps.{Room}
use Rattle.table_lines.proofs.Stores.{put_then_at, put_length, room_first, room_then_at}
use Rattle.table_lines.proofs.Outcomes.{refusal_length, line_short, line_put}
use Rattle.table_lines.proofs.refusal.put_refusal.Goals as goal

-- where the length is not above the buffer's, the line fits
room : (b : List ℕ) (number place : ℕ) → length (decimal number) + length (decimal place) + 10 ≤ length b
    → Room b 0 (refusal_line number place)
room b number place l = record { fits = omega (arith, refusal_length number place) }

pub returns-then-buffer-needed : goal.returns-then-buffer-needed
returns-then-buffer-needed c =
    let a = c.args in
    line_short _ (refusal_line a.number a.place) (omega (arith, refusal_length a.number a.place))

pub put_bytes-numbered-requires : goal.put_bytes-numbered-requires
unfolding refusal_line
put_bytes-numbered-requires c = room_first _ (room _ c.args.number c.args.place (omega arith))

pub put_pair-requires : goal.put_pair-requires
unfolding refusal_line
put_pair-requires c = room_then_at c.put_bytes-numbered.ensures (omega arith) _ (room _ c.args.number c.args.place (omega arith))

pub returns : goal.returns
unfolding refusal_line
returns c = line_put (room _ c.args.number c.args.place (omega arith)) (put_then_at c.put_bytes-numbered.ensures (omega arith) c.put_pair.ensures)

pub shape_of-buffer : goal.shape_of-buffer
shape_of-buffer c = put_length c.put_pair.ensures ∙ put_length c.put_bytes-numbered.ensures
