-- `vectors::limits::with_limits`: the bytes stay as many.
use Rattle.std.proofs.Common.{◌≡◌, length}
use Rattle.vectors.proofs.limits.with_limits.Given as goal

abbrev pub invariant-loop-digit : goal.invariant-loop-digit
invariant-loop-digit l = length l.text ≡ length l.fn.text

abbrev pub invariant-loop-b : goal.invariant-loop-b
invariant-loop-b l = length l.text ≡ length l.fn.text
