-- A test as a number, as a count adds it. Assumes nothing.
use mathlib.Core.Path.{◌≡◌, refl, ◌∙◌}
use mathlib.Core.Bool.{Bool, true, false, cond}
use Prim.Native.Nat.{ℕ}
use Rattle.std.specs.Int.{from_bool}

number : (b : Bool) → from_bool b ≡ cond b 1 0
number true = refl
number false = refl

pub counted : {n : ℕ} {a b : Bool} → n ≡ from_bool a → a ≡ b → n ≡ cond b 1 0
counted {b = b} e f = rw f at e ∙ number b
