-- What std's `find` answers over the numbers below a bound. Assumes nothing.
use mathlib.Core.Path.{◌≡◌}
use mathlib.Core.Bool.{Bool, true, false}
use Prim.Native.Nat.{ℕ, ◌≤◌, ◌<◌, zero-le}
use native.Mathlib.Nat.{le_refl, le_of_lt}
use denote.Param.Members.{Mut}
use denote.Ref.{Bor}
use Rattle.std.specs.Prelude.{Option, Some, None, MatchOption}
use Rattle.std.specs.declared.ops.Range.{Range}
use Rattle.std.specs.Fn.{CalledAt}
use Rattle.std.specs.Iterator.{FindsItem}
use Rattle.std.proofs.iter.Yields.{nat_range_steps}
use Rattle.std.proofs.lemmas.Iterator.{first_from_Range}
use Rattle.task_set.specs.Bounded.{found}
use Rattle.task_set.proofs.Search.{found_at, found_none}

by : (n : ℕ) (test : ℕ → Bool) (r : Option ℕ)
    → MatchOption r ((k : ℕ) → 0 ≤ k → k < n → test k ≡ false)
    (λ i. (0 ≤ i) × (i < n) × (test i ≡ true) × ((k : ℕ) → 0 ≤ k → k < i → test k ≡ false))
    → r ≡ found n test
by n test None h = found_none (record { within = le_refl n; before = λ k l. h k zero-le l }) (le_refl n)
by n test (Some i) h = found_at (record { within = le_of_lt h.1; before = λ k l. h.3 k zero-le l }) h.1 h.2

-- a call on x gives whether x passes, and changes nothing
pub found_by : {F : Type 0} {g : Mut F (Bor ℕ × Unit {0}) Bool} (n : ℕ) (test : ℕ → Bool) (u : Range ℕ) (f : F) (r : Option ℕ)
    → FindsItem nat_range_steps g (record { start = 0; end = n }) f r u
    → ((x : ℕ) (q : F) → CalledAt g f x true q → test x ≡ true)
    → ((x : ℕ) (q : F) → CalledAt g f x false q → (q ≡ f) × (test x ≡ false))
    → r ≡ found n test
found_by n test u f r ran passes fails =
    by n test r
    (first_from_Range (record { start = 0; end = n }) u f r (λ i. test i ≡ true) (λ i. test i ≡ false) ran passes fails)
