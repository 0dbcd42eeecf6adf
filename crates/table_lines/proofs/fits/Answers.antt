-- `table_lines::fits` meets its contract. Assumes nothing.
use mathlib.Core.Path.{refl}
use borrow.Author.Tests.{lt-ltb, le-ltb}
use Rattle.plan.proofs.Refusing.{err_is_result, ok_is_result}
use Rattle.table_lines.proofs.fits.Goals as goal

pub returns-then-room-needed : goal.returns-then-room-needed
returns-then-room-needed c = err_is_result refl c.refused.ensures (rw (lt-ltb _ _ c.if-room-needed.true) refl)

pub returns : goal.returns
returns c = ok_is_result (rw (le-ltb _ _ c.if-room-needed.false) refl)
