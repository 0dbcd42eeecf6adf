-- Tests, counts and searches over the numbers below a bound. Assumes nothing.
use Rattle.std.specs.Prelude.{Bool, true, false, cond, ◌&&◌, ◌||◌, not, List, [], ◌∷◌, ℕ, zero, suc, ◌+◌, ltb, Option, Some, None}

-- a holds only where b does
abbrev pub implies : Bool → Bool → Bool
implies a b = not a || b

-- every number below n passes p
unfoldable pub all : ℕ → (ℕ → Bool) → Bool
all zero p = true
all (suc n) p = all n p && p n

-- some number below n passes p
unfoldable pub any : ℕ → (ℕ → Bool) → Bool
any zero p = false
any (suc n) p = any n p || p n

-- how many numbers below n pass p
unfoldable pub count : ℕ → (ℕ → Bool) → ℕ
count zero p = 0
count (suc n) p = count n p + cond (p n) 1 0

-- the first number below n that passes p, and n where none does
unfoldable pub first : ℕ → (ℕ → Bool) → ℕ
first zero p = 0
first (suc n) p = cond (p 0) 0 (suc (first n (λ i. p (suc i))))

-- the same, if there is one
unfoldable pub found : ℕ → (ℕ → Bool) → Option ℕ
found n p = cond (ltb (first n p) n) (Some (first n p)) None

-- the values of f at 0, .., n - 1
unfoldable pub tabulate : {A : Type 0} → ℕ → (ℕ → A) → List A
tabulate zero f = []
tabulate (suc n) f = f 0 ∷ tabulate n (λ i. f (suc i))
