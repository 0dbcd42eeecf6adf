-- What inner functions of the reader compute. No promise of `plan_text` cites it. Assumes nothing.
use Rattle.std.specs.Prelude.{◌≡◌, true, cond, ◌&&◌, List, [], ◌∷◌, Option, None, Some, option_map, ℕ, suc, ◌+◌, ◌^◌, ◌≤◌, ◌<◌, eqb, ltb, length, get_or, take, drop, set, replicate}
use Rattle.text_form.specs.declared.Line.{Line}
use Rattle.text_form.specs.declared.Field.{Field}
use Rattle.text_form.specs.declared.Fields.{Fields}
use Rattle.text_form.specs.Form.{newline, most_digits, is_digit, every, is_field, value_from, form_of, line_of}

-- ---- the first part

-- how many bytes stand before the first separator, or all of them
unfoldable pub part_length : ℕ → List ℕ → ℕ
part_length separator [] = 0
part_length separator (b ∷ s) = cond (eqb b separator) 0 (suc (part_length separator s))

abbrev pub first_part : ℕ → List ℕ → List ℕ
first_part separator s = take (part_length separator s) s

-- ---- fields

-- the first n bytes of s are digits, few enough for a field, and make the value v
pub record Digits (s : List ℕ) (n v : ℕ) : Type 0 where
  pub within : n ≤ length s
  pub few : n ≤ most_digits
  pub digits : every is_digit (take n s) ≡ true
  pub value : v ≡ value_from 0 (take n s)
  pub small : v < 10 ^ n

unfoldable pub field_of : List ℕ → Option Field
field_of part = cond (is_field part) (Some (record { value = value_from 0 part; digits = length part })) None

-- the most fields of a form
abbrev pub most_fields : ℕ
most_fields = 4

-- n fields with these values, and the parts after them
unfoldable pub fields_from : List (List ℕ) → ℕ → List ℕ → Option Fields
fields_from [] n values = Some (record { count = n; values = values })
fields_from (part ∷ parts) n values =
    let further = fields_from parts (n + 1) (set values n (value_from 0 part)) in
    cond (ltb n most_fields && is_field part) further None

abbrev pub fields_of : List (List ℕ) → Option Fields
fields_of parts = fields_from parts 0 (replicate most_fields 0)

-- ---- a line

-- the line of a letter and fields
abbrev pub form_from : ℕ → Fields → Option Line
form_from letter f = form_of letter f.count (λ i. get_or f.values i 0)

-- the line that begins at a, and where its newline stands; where there is none the line has none of the forms
unfoldable pub line_at : List ℕ → ℕ → Option (Line × ℕ)
line_at s a =
    let rest = drop a s in
    let n = part_length newline rest in
    cond (ltb n (length rest)) (option_map (λ line. (line, a + n)) (line_of (first_part newline rest))) None
