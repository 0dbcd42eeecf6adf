-- The form of a line (document 01, "The plan text"). A line is given without the newline that ends it. Assumes nothing.
use Rattle.std.specs.Prelude.{Bool, true, cond, ◌&&◌, ◌||◌, not, List, [], ◌∷◌, Option, None, Some, ℕ, ◌+◌, ◌-◌, ◌*◌, eqb, length, get_or}
use Rattle.plan.specs.Rules.{between}
use Rattle.text_form.specs.declared.Line.{Line}
use Rattle.text_form.specs.declared.Line.TheVariants.{Units, Times, Arrow, Deadline, Release, Choice}

-- ---- the bytes

-- "A text may hold 0 to 32,768 bytes"
abbrev pub most_bytes : ℕ
most_bytes = 32768

abbrev pub newline : ℕ
newline = 10

abbrev pub tab : ℕ
tab = 9

-- the digits 0 to 9
abbrev pub is_digit : ℕ → Bool
is_digit b = between 48 b 57

abbrev pub digit_value : ℕ → ℕ
digit_value b = b - 48

-- ---- parts

abbrev pub prepend : ℕ → List (List ℕ) → List (List ℕ)
prepend b [] = (b ∷ []) ∷ []
prepend b (part ∷ parts) = (b ∷ part) ∷ parts

-- the parts of s before, between and after the separators
unfoldable pub split : ℕ → List ℕ → List (List ℕ)
split separator [] = [] ∷ []
split separator (b ∷ s) = cond (eqb b separator) ([] ∷ split separator s) (prepend b (split separator s))

-- each of a list passes
unfoldable pub every : {A : Type 0} → (A → Bool) → List A → Bool
every passes [] = true
every passes (a ∷ l) = passes a && every passes l

-- ---- a field: "1 to 7 digits" (document 02, 4), "no sign, no leading zero except for 0 itself"

abbrev pub most_digits : ℕ
most_digits = 7

unfoldable pub is_field : List ℕ → Bool
is_field s = between 1 (length s) most_digits && (every is_digit s && (eqb (length s) 1 || not (eqb (get_or s 0 0) 48)))

-- the decimal number of v and the digits that follow it
unfoldable pub value_from : ℕ → List ℕ → ℕ
value_from v [] = v
value_from v (b ∷ s) = value_from (v * 10 + digit_value b) s

-- ---- a line: "a letter, then decimal fields, each after one tab"

-- U, type, count of units; T, task, type, best, worst; A, from, to; D, task, instant (document 02, 2); N, task, instant
-- (document 02, 6); C, task, type: by the letter, how many fields there are, and their values
unfoldable pub form_of : ℕ → ℕ → (ℕ → ℕ) → Option Line
form_of letter n v =
    cond (eqb letter 85 && eqb n 2) (Some (Units (v 0) (v 1)))
    (cond (eqb letter 84 && eqb n 4) (Some (Times (v 0) (v 1) (v 2) (v 3)))
    (cond (eqb letter 65 && eqb n 2) (Some (Arrow (v 0) (v 1)))
    (cond (eqb letter 68 && eqb n 2) (Some (Deadline (v 0) (v 1)))
    (cond (eqb letter 78 && eqb n 2) (Some (Release (v 0) (v 1)))
    (cond (eqb letter 67 && eqb n 2) (Some (Choice (v 0) (v 1)))
    None)))))

abbrev pub line_of_parts : List (List ℕ) → Option Line
line_of_parts [] = None
line_of_parts (letter ∷ fields) =
    let form = form_of (get_or letter 0 0) (length fields) (λ i. value_from 0 (get_or fields i [])) in
    cond (eqb (length letter) 1 && every is_field fields) form None

unfoldable pub line_of : List ℕ → Option Line
line_of s = line_of_parts (split tab s)
