-- `adoption_starts::is_unmeetable` meets its contract, however its tests are written: what the records passed say. Assumes nothing.
use mathlib.Core.Path.{refl}
use native.Mathlib.Nat.{lt_of_lt_of_le}
use native.Mathlib.Omega.{arith}
use Rattle.std.proofs.lemmas.Bool.Decides.{nat_tests}
use Rattle.task_set.specs.Bounded.{any, count}
use Rattle.task_set.proofs.Bounded.{any_step, count_step, count_room}
use Rattle.task_set.proofs.Upto.{upto_none, upto_more, upto_end}
use Rattle.adoption_theory.proofs.Counted.{counted}
use Rattle.adoption_starts.proofs.Judging.{delays_by, unmeetable_by}
use Rattle.adoption_starts.proofs.is_unmeetable.Goals as goal

pub loop-j-init : goal.loop-j-init
unfolding any count
loop-j-init c = (upto_none refl, upto_none refl)

pub overflow_add-holders : goal.overflow_add-holders
overflow_add-holders c =
    omega (
      arith,
      count_room _ _ c.loop-j.invariant.1.is (counted c.from-holders.ensures c.holds.ensures),
      c.loop-j-test.true,
      c.requires.0.1.0,
    )

pub loop-j-preserved : goal.loop-j-preserved
loop-j-preserved c = (
  upto_more c.loop-j-test.true
      (any_step _ _ c.loop-j.invariant.0.is
      (delays_by _ _ _ _ (lt_of_lt_of_le c.loop-j-test.true c.requires.0.1.0) c.predecessors_of-needed.type_inv c.requires.1
      c.intersects.ensures (grind (arith, nat_tests)))),
  upto_more c.loop-j-test.true (count_step _ _ c.loop-j.invariant.1.is (counted c.from-holders.ensures c.holds.ensures)),
)

pub returns : goal.returns
returns c =
    unmeetable_by _ _ _ _ _ refl c.predecessors_of-needed.ensures c.release_of-release.ensures refl
    (upto_end c.loop-j.invariant.0 c.loop-j-test.false) (grind (arith, nat_tests))
    (upto_end c.loop-j.invariant.1 c.loop-j-test.false)
