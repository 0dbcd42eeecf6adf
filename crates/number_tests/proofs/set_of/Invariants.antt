-- `number_tests::set_of` meets its contract: the set of those before t that pass. Assumes nothing.
use Rattle.std.proofs.Common.{◌≡◌, ◌<◌, ℕ, Bool}
use Rattle.task_set.specs.Sets.{set_of}
use Rattle.number_tests.proofs.set_of.Given as goal

abbrev pub invariant-loop-t : goal.invariant-loop-t
invariant-loop-t g l =
    (p : ℕ → Bool) → ((t : ℕ) (b : Bool) → t < l.n → goal.F-post g l.test t b → b ≡ p t) → l.s ≡ set_of l.t p
