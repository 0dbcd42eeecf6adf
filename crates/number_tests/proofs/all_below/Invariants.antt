-- `number_tests::all_below` meets its contract: `ok` tells of the numbers before i. Assumes nothing.
use Rattle.std.proofs.Common.{◌≡◌, ◌<◌, ℕ, Bool}
use Rattle.task_set.specs.Bounded.{all}
use Rattle.number_tests.proofs.all_below.Given as goal

abbrev pub invariant-loop-i : goal.invariant-loop-i
invariant-loop-i g l =
    (p : ℕ → Bool) → ((t : ℕ) (b : Bool) → t < l.n → goal.F-post g l.test t b → b ≡ p t) → l.ok ≡ all l.i p
