-- Rows of numbers: what is computed from the definitions, and what the documents say that it is. Assumes nothing.
use Rattle.std.specs.Prelude.{◌≡◌, List, [], ◌∷◌, ℕ}

pub record Row : Type 0 where
  pub computed : List ℕ
  pub stated : List ℕ

abbrev pub row : List ℕ → List ℕ → Row
row computed stated = record { computed = computed; stated = stated }

-- every row is as stated
abbrev pub Holds : List Row → Type 0
Holds [] = Unit {0}
Holds (r ∷ rest) = (r.computed ≡ r.stated) × Holds rest
