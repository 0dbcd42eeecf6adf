-- `ranks::table::own_rank` meets its contract, however the test is written: the types passed are counted and their times summed. Assumes nothing.
use native.Mathlib.Omega.{arith}
use borrow.Author.Rules.{rules}
use mathlib.Core.Bool.{Bool, true, false, cond}
use mathlib.Core.Path.{◌≡◌, refl, ap, ◌∙◌}
use mir.Val.{bool_byte}
use lib.Dec.{ltb}
use Prim.Native.Nat.{ℕ, ◌+◌}
use Rattle.std.proofs.lemmas.Bool.Decides.{nat_tests}
use Rattle.ranks.proofs.Summing.{summed_none, summed_more, own_is, some_counted}
use Rattle.ranks.proofs.table.own_rank.Goals as goal

-- true is 1, and false 0
byte_is : (b : Bool) → bool_byte b ≡ cond b 1 0
byte_is true = refl
byte_is false = refl

-- a test that says what `0 < time` says counts the type
counted_by : {n : ℕ} {b : Bool} (time : ℕ) → n ≡ bool_byte b → b ≡ ltb 0 time → n ≡ cond (ltb 0 time) 1 0
counted_by time e f = e ∙ byte_is _ ∙ ap (λ (b : Bool). cond b 1 0) f

pub loop-k-preserved : goal.loop-k-preserved
loop-k-preserved c =
    let time = c.time_of-time in
    rw c.from-total.ensures
    (summed_more c.loop-k.invariant time.result (c.loop-k.types + c.from-types.result) c.loop-k-test.true time.ensures
    (search rules)
    (ap (λ (n : ℕ). c.loop-k.types + n) (counted_by time.result c.from-types.ensures (grind (arith, nat_tests)))))

pub loop-k-init : goal.loop-k-init
loop-k-init c = summed_none

pub nonzero_div-result : goal.nonzero_div-result
nonzero_div-result c = some_counted c.loop-k.invariant c.loop-k-test.false c.requires

pub returns : goal.returns
returns c = own_is c.loop-k.invariant c.loop-k-test.false
