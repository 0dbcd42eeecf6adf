-- The fields of a line, read one after the other, and the line that they make with its letter. Assumes nothing.
use mathlib.Core.Path.{◌≡◌, refl, sym, ap, ◌∙◌}
use mathlib.Core.Bool.{Bool, true, false, cond, ◌&&◌, and-false}
use mathlib.Core.List.{List, [], ◌∷◌}
use Prim.Native.Nat.{ℕ, ◌+◌, ◌-◌, ◌≤◌, ◌<◌}
use native.Mathlib.Omega.{arith}
use lib.Dec.{eqb, leb, ltb}
use lib.ListN.{length, get_or, take, drop, set, drop_of_length-le}
use borrow.Author.Tests.{eq-eqb, ne_eqb, eqb-true, lt-ltb, le-ltb, leb-true}
use Rattle.std.proofs.Common.{position, Option, Some, None, option_and_then}
use Rattle.std.proofs.lemmas.Option.{none-some, same_Some}
use Rattle.task_set.proofs.Truth.{clash, by_test, off, and_left, and_right}
use Rattle.text_form.specs.declared.Line.{Line}
use Rattle.text_form.specs.declared.Field.{Field}
use Rattle.text_form.specs.declared.Fields.{Fields}
use Rattle.plan.specs.Rules.{between}
use Rattle.text_form.specs.Form.{most_digits, newline, tab, split, is_field, value_from, every, form_of, line_of_parts, line_of}
use Rattle.text_form.specs.Steps.{part_length, first_part, field_of, most_fields, fields_from, fields_of, form_from, line_at}
use Rattle.text_form.proofs.Parts.{part_position, part_length_lem, from_on, split_last, split_more, split_first}

-- ---- what a field tells of its part

record Known (part : List ℕ) (f : Field) : Type 0 where
  field : is_field part ≡ true
  value : value_from 0 part ≡ f.value
  long : length part ≡ f.digits

known : (part : List ℕ) (f : Field) → field_of part ≡ Some f → Known part f
unfolding field_of
known part f e = go (is_field part) refl e
  where
    go : (b : Bool) → is_field part ≡ b → cond b (Some (record { value = value_from 0 part; digits = length part })) None ≡ Some f
        → Known part f
    go true q e =
        let same = same_Some _ f e in
        record { field = q; value = ap (λ (x : Field). x.value) same; long = ap (λ (x : Field). x.digits) same }
    go false q e = absurd (none-some f e)

unknown : (part : List ℕ) → field_of part ≡ None → is_field part ≡ false
unfolding field_of
unknown part e = off (is_field part) (λ t. none-some _ (sym (rw t at e)))

-- it has as many digits as its part has bytes
pub taken : (t : List ℕ) (f : Field) → field_of (first_part tab t) ≡ Some f → part_length tab t ≡ f.digits
taken t f e = sym (part_length_lem tab t) ∙ (known (first_part tab t) f e).long

pub taken_few : (t : List ℕ) (f : Field) → field_of (first_part tab t) ≡ Some f → f.digits ≤ most_digits
unfolding is_field
taken_few t f e =
    let k = known (first_part tab t) f e in
    let l = and_left (between 1 (length (first_part tab t)) most_digits) _ k.field in
    omega (arith, k.long, leb-true _ most_digits (and_right (leb 1 (length (first_part tab t))) _ l))

-- ---- the next field, after n fields with the values vs

module _ (t : List ℕ) (n : ℕ) (vs : List ℕ) where
  pub fields_none : field_of (first_part tab t) ≡ None → fields_from (split tab t) n vs ≡ None
  unfolding fields_from
  fields_none e = rw ((split_first tab t).1, unknown (first_part tab t) e, and-false (ltb n most_fields))

  pub fields_full : most_fields ≤ n → fields_from (split tab t) n vs ≡ None
  unfolding fields_from
  fields_full l = rw ((split_first tab t).1, le-ltb n most_fields l)

  module _ (l : n < most_fields) (f : Field) (e : field_of (first_part tab t) ≡ Some f) where
    -- the first part, whatever follows it
    next : (parts : List (List ℕ)) → fields_from (first_part tab t ∷ parts) n vs ≡ fields_from parts (n + 1) (set vs n f.value)
    unfolding fields_from
    next parts = let k = known (first_part tab t) f e in rw (lt-ltb n most_fields l, k.field, k.value)

    pub fields_last : length t ≤ f.digits
        → fields_from (split tab t) n vs ≡ Some (record { count = n + 1; values = set vs n f.value })
    unfolding fields_from
    fields_last m = ap (λ (x : List (List ℕ)). fields_from x n vs) (split_last tab t (omega (arith, taken t f e))) ∙ next []

    -- the rest of the list after a separator, as a slice has it
    pub fields_more : f.digits < length t
        → fields_from (split tab (take (length t - (f.digits + 1)) (drop (f.digits + 1) t))) (n + 1) (set vs n f.value)
        ≡ fields_from (split tab t) n vs
    fields_more m =
        let more = split_more tab t (omega (arith, taken t f e)) in
        let rest : take (length t - (f.digits + 1)) (drop (f.digits + 1) t) ≡ drop (part_length tab t + 1) t =
        from_on t (f.digits + 1) ∙ ap (λ (x : ℕ). drop (x + 1) t) (sym (taken t f e)) in
        ap (λ (x : List ℕ). fields_from (split tab x) (n + 1) (set vs n f.value)) rest
        ∙ sym (ap (λ (x : List (List ℕ)). fields_from x n vs) more ∙ next (split tab (drop (part_length tab t + 1) t)))

-- ---- the line

-- the line of a letter and the fields that were read, if they are fields
abbrev pub line_from : ℕ → Option Fields → Option Line
line_from letter = option_and_then (form_from letter)

-- a part that is no field leaves no fields
fields_off : (parts : List (List ℕ)) (n : ℕ) (vs : List ℕ) → every is_field parts ≡ false → fields_from parts n vs ≡ None
unfolding every fields_from
fields_off [] n vs e = absurd (clash refl e)
fields_off (part ∷ parts) n vs e = go (ltb n most_fields) (is_field part) e (fields_off parts (n + 1) (set vs n (value_from 0 part)))
  where
    go : (x y : Bool) → y && every is_field parts ≡ false
        → (every is_field parts ≡ false → fields_from parts (n + 1) (set vs n (value_from 0 part)) ≡ None)
        → cond (x && y) (fields_from parts (n + 1) (set vs n (value_from 0 part))) None ≡ None
    go false y e ih = refl
    go true false e ih = refl
    go true true e ih = ih e

abbrev value_at : List (List ℕ) → ℕ → ℕ
value_at parts i = value_from 0 (get_or parts i [])

module _ (letter : ℕ) where
  -- no form has no fields
  no_form : (v : ℕ → ℕ) → form_of letter 0 v ≡ None
  unfolding form_of
  no_form v = simp and-false

  -- nor has one so many
  too_many : (n : ℕ) (v : ℕ → ℕ) → most_fields < n → form_of letter n v ≡ None
  unfolding form_of
  too_many n v l = simp (ne_eqb n 2 (λ e. omega arith), ne_eqb n 4 (λ e. omega arith), and-false)

  all_forms : (parts : List (List ℕ)) → every is_field parts ≡ true
      → form_of letter (length parts) (value_at parts) ≡ line_from letter (fields_of parts)
  unfolding every fields_from form_of value_from
  all_forms [] e = refl
  all_forms (p ∷ []) e = rw (and_left (is_field p) _ e)
  all_forms (p ∷ q ∷ []) e = rw (and_left (is_field p) _ e, and_left (is_field q) _ (and_right (is_field p) _ e))
  all_forms (p ∷ q ∷ r ∷ []) e =
      let e₁ = and_right (is_field p) _ e in
      rw (and_left (is_field p) _ e, and_left (is_field q) _ e₁, and_left (is_field r) _ (and_right (is_field q) _ e₁))
  all_forms (p ∷ q ∷ r ∷ s ∷ rest) e =
      let e₁ = and_right (is_field p) _ e in
      let e₂ = and_right (is_field q) _ e₁ in
      let e₃ = and_right (is_field r) _ e₂ in
      rw (and_left (is_field p) _ e, and_left (is_field q) _ e₁, and_left (is_field r) _ e₂, and_left (is_field s) _ e₃) (go rest)
    where
      go : (rest : List (List ℕ)) → form_of letter (length (p ∷ q ∷ r ∷ s ∷ rest)) (value_at (p ∷ q ∷ r ∷ s ∷ rest))
          ≡ line_from letter (fields_from rest 4 (value_from 0 p ∷ value_from 0 q ∷ value_from 0 r ∷ value_from 0 s ∷ []))
      go [] = refl
      go (t ∷ rest) = too_many (length (p ∷ q ∷ r ∷ s ∷ t ∷ rest)) (value_at (p ∷ q ∷ r ∷ s ∷ t ∷ rest)) (omega arith)

  forms : (parts : List (List ℕ))
      → cond (every is_field parts) (form_of letter (length parts) (value_at parts)) None ≡ line_from letter (fields_of parts)
  forms parts =
      by_test (every is_field parts) (λ e. rw e (all_forms parts e))
      (λ e. rw (e, fields_off parts 0 _ e))

pub line_short : (s : List ℕ) → length s < 2 → line_of s ≡ None
unfolding line_of split every is_field
line_short [] l = refl
line_short (b ∷ []) l = go (eqb b tab)
  where
    go : (x : Bool) → line_of_parts (cond x ([] ∷ [] ∷ []) ((b ∷ []) ∷ [])) ≡ None
    go true = refl
    go false = no_form b _
line_short (b ∷ a ∷ s) l = absurd (omega arith)

pub line_untabbed : (s : List ℕ) → 2 ≤ length s → (get_or s 1 0 ≡ tab → ⊥) → line_of s ≡ None
unfolding line_of split
line_untabbed [] l f = absurd (omega arith)
line_untabbed (b ∷ []) l f = absurd (omega arith)
line_untabbed (b ∷ a ∷ s) l f = rw (ne_eqb a tab f, (split_first tab s).1) (go (eqb b tab) (a ∷ first_part tab s) _ (omega arith))
  where
    go : (x : Bool) (p : List ℕ) (parts : List (List ℕ)) → 0 < length p
        → line_of_parts (cond x ([] ∷ p ∷ parts) ((b ∷ p) ∷ parts)) ≡ None
    go true p parts m = refl
    go false p parts m = rw (ne_eqb (length (b ∷ p)) 1 (λ e. omega arith))

tab_begins_none : (o : Option Fields) → line_from tab o ≡ None
unfolding form_of
tab_begins_none None = refl
tab_begins_none (Some f) = refl

line_tabbed : (s : List ℕ) → 2 ≤ length s → get_or s 1 0 ≡ tab
    → line_of s ≡ line_from (get_or s 0 0) (fields_of (split tab (drop 2 s)))
unfolding line_of split form_of
line_tabbed [] l e = absurd (omega arith)
line_tabbed (b ∷ []) l e = absurd (omega arith)
line_tabbed (b ∷ a ∷ s) l e = rw (eq-eqb a tab e) (go (eqb b tab) refl)
  where
    go : (x : Bool) → eqb b tab ≡ x
        → line_of_parts (cond x ([] ∷ [] ∷ split tab s) ((b ∷ []) ∷ split tab s)) ≡ line_from b (fields_of (split tab s))
    go true f = rw (eqb-true b tab f) (sym (tab_begins_none (fields_of (split tab s))))
    go false f = forms b (split tab s)

-- by the fields of what follows the tab, as a slice has it
pub line_by : (s : List ℕ) → 2 ≤ length s → get_or s 1 0 ≡ tab → {o : Option Fields}
    → fields_of (split tab (take (length s - 2) (drop 2 s))) ≡ o → line_of s ≡ line_from (get_or s 0 0) o
line_by s l e f =
    line_tabbed s l e ∙ ap (line_from _) (ap (λ (x : List ℕ). fields_of (split tab x)) (sym (from_on s 2)) ∙ f)

-- ---- a line of a text

abbrev newline_in : List ℕ → Option ℕ
newline_in t = position (λ b. eqb b newline) t

found : (t : List ℕ) (n : ℕ) → newline_in t ≡ Some n
    → (ltb (part_length newline t) (length t) ≡ true) × (part_length newline t ≡ n)
found t n e = go (ltb (part_length newline t) (length t)) refl (sym (part_position newline t) ∙ e)
  where
    go : (b : Bool) → ltb (part_length newline t) (length t) ≡ b → cond b (Some (part_length newline t)) None ≡ Some n
        → (ltb (part_length newline t) (length t) ≡ true) × (part_length newline t ≡ n)
    go true f g = (f, same_Some _ n g)
    go false f g = absurd (none-some n g)

lost : (t : List ℕ) → newline_in t ≡ None → ltb (part_length newline t) (length t) ≡ false
lost t e = off _ (λ f. none-some (part_length newline t) (sym e ∙ part_position newline t ∙ rw f refl))

module _ (s : List ℕ) (a : ℕ) where
  pub line_past : length s ≤ a → line_at s a ≡ None
  unfolding line_at part_length
  line_past l = rw (drop_of_length-le s l)

  pub line_unended : newline_in (drop a s) ≡ None → line_at s a ≡ None
  unfolding line_at
  line_unended e = rw (lost (drop a s) e)

  pub line_formless : (n : ℕ) → newline_in (drop a s) ≡ Some n → line_of (take n (drop a s)) ≡ None → line_at s a ≡ None
  unfolding line_at
  line_formless n e f = let g = found (drop a s) n e in rw (g.0, g.1, f)

  pub line_formed : (n : ℕ) (line : Line) → newline_in (drop a s) ≡ Some n → line_of (take n (drop a s)) ≡ Some line
      → line_at s a ≡ Some (line, a + n)
  unfolding line_at
  line_formed n line e f = let g = found (drop a s) n e in rw (g.0, g.1, f)
