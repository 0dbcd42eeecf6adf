-- `ranks_arrows::leads_back` meets its contract: more tasks join at each look but the last. Assumes nothing.
use mathlib.Core.Path.{sym, ap, ◌∙◌}
use Prim.Native.Nat.{ℕ}
use native.Mathlib.Nat.{le_refl}
use native.Mathlib.Omega.{arith}
use lib.Dec.{ltb}
use Rattle.ranks_arrows.proofs.Joining.{fair_none, joined_fair, grows, size_low, short_circle}
use Rattle.ranks_arrows.proofs.leads_back.Goals as goal

pub loop-s-smaller : goal.loop-s-smaller
loop-s-smaller c =
    omega (arith, grows _ _ c.requires _ c.loop-s.invariant c.all_joined-more.ensures c.if-more-s.false, size_low c.all_joined-more.result)

pub loop-s-preserved : goal.loop-s-preserved
loop-s-preserved c = rw c.all_joined-more.ensures (joined_fair _ _ c.requires _ _ (le_refl _) c.loop-s.invariant)

pub returns-then-more-s : goal.returns-then-more-s
returns-then-more-s c =
    ap (λ (n : ℕ). ltb n c.args.tasks) c.member_count.ensures
    ∙ short_circle _ _ c.requires _ c.loop-s.invariant (sym c.all_joined-more.ensures ∙ c.if-more-s.true)

pub loop-s-init : goal.loop-s-init
loop-s-init c = fair_none _ _ c.requires
