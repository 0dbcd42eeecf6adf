-- `replay::replay` meets its contract. Assumes nothing.
use mathlib.Core.Path.{refl}
use native.Mathlib.Omega.{arith}
use Rattle.replay.proofs.Replaying.{says_first, says_19, says_none, replays_refused, replays_whole}
use Rattle.replay.proofs.replay.Goals as goal

pub returns-then-t-ne0 : goal.returns-then-t-ne0
returns-then-t-ne0 c =
    replays_refused _ _ _ _ _ _ (says_first _ _ c.start-t.ensures _ _ c.if-t-ne0.true) c.if-t-ne0.true c.refusal.ensures

pub returns-then-short : goal.returns-then-short
returns-then-short c =
    replays_refused _ _ _ _ _ _ (says_19 _ _ c.start-t.ensures _ _ c.if-t-ne0.false (omega arith)) (λ e. omega arith)
    c.refusal-then-short.ensures

pub returns : goal.returns
returns c =
    replays_whole _ _ _ _ _ _ (says_none _ _ c.start-t.ensures _ _ c.if-t-ne0.false (omega arith)) refl
    c.start-t.ensures c.tick_each-state.ensures
