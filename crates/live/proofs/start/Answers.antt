-- `live::start` meets its contract. Assumes nothing.
use mathlib.Core.Path.{sym, ap, ◌∙◌}
use Prim.Native.Nat.{zero-le}
use Rattle.live_marks.specs.declared.Marks.{Marks}
use Rattle.live.specs.Ticks.{stayed}
use Rattle.plan.proofs.Accepted.{accepted, positions}
use Rattle.plan.proofs.Refusing.{as_ok, as_err}
use Rattle.live.proofs.FreshStates.{fresh_walkable, start_refused, start_walked}
use Rattle.live.proofs.start.Goals as goal

pub returns-in-Err : goal.returns-in-Err
returns-in-Err c =
    ap (stayed _) c.no_state-state.ensures ∙ start_refused _ _ (as_err _ (sym c.in-Err.is ∙ c.checked.ensures))

pub mark_positions-m-requires : goal.mark_positions-m-requires
mark_positions-m-requires c =
    (positions _ _ (accepted _ _ (as_ok _ (sym c.in_default.is ∙ c.checked.ensures))), zero-le)

pub walk_on-started-requires : goal.walk_on-started-requires
walk_on-started-requires c =
    fresh_walkable _ _ (as_ok _ (sym c.in_default.is ∙ c.checked.ensures))
    c.no_state-state.ensures (ap (λ (m : Marks). m.users) c.mark_positions-m.ensures)

pub returns : goal.returns
returns c =
    c.walk_on-started.ensures ∙ start_walked _ _ (as_ok _ (sym c.in_default.is ∙ c.checked.ensures)) c.no_state-state.ensures
