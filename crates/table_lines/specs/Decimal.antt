-- Decimal numbers as bytes. Assumes nothing.
use Rattle.std.specs.Prelude.{cond, List, [], ◌∷◌, ◌++◌, ℕ, zero, suc, ◌+◌, ◌/◌, ◌%◌, ltb}

-- the decimal digits of x, where so many digits are enough; 48 is the byte of 0
unfoldable pub decimal_upto : ℕ → ℕ → List ℕ
decimal_upto zero x = []
decimal_upto (suc n) x = let front = decimal_upto n (x / 10) in cond (ltb x 10) ((48 + x) ∷ []) (front ++ (48 + x % 10) ∷ [])

-- the decimal digits of x, a number of 64 bits
unfoldable pub decimal : ℕ → List ℕ
decimal x = decimal_upto 20 x
