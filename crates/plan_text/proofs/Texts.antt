-- A text read line by line. Assumes nothing.
use mathlib.Core.Path.{◌≡◌, refl, sym, ap, ap₂, ◌∙◌}
use mathlib.Core.Bool.{Bool, true, false, cond}
use mathlib.Core.List.{List, [], ◌∷◌}
use Prim.Native.Nat.{ℕ, ◌+◌, ◌≤◌, ◌<◌}
use native.Mathlib.Omega.{arith}
use lib.Dec.{ltb}
use lib.ListN.{length, drop, length-drop}
use borrow.Author.Tests.{eq-eqb, ne_eqb, lt-ltb, le-ltb, ltb-true, ltb-false}
use Rattle.std.proofs.Common.{Option, None, Some, option_map}
use Rattle.std.proofs.lemmas.Option.{none-some, same_Some}
use Rattle.task_set.proofs.Truth.{by_test}
use Rattle.text_form.specs.declared.Line.{Line}
use Rattle.text_form.specs.Form.{most_bytes, newline, split, line_of}
use Rattle.text_form.specs.Steps.{part_length, first_part, line_at}
use Rattle.text_form.proofs.Parts.{part_length_lem, drop_past, split_last, split_more, split_first}
use Rattle.plan_text.specs.declared.Answer.{Answer}
use Rattle.plan_text.specs.Reading.{Reading, nothing, line_fault, line_done}
use Rattle.plan_text.specs.Text.{refused, answer_of, answer_by, read_lines, read_text}

-- ---- the whole text

pub text_long : (s : List ℕ) → most_bytes < length s → read_text s ≡ refused 1 0
unfolding read_text
text_long s l = rw (lt-ltb most_bytes (length s) l)

pub text_short : (s : List ℕ) → length s ≤ most_bytes → read_text s ≡ read_lines (split newline s) 1 nothing
unfolding read_text
text_short s l = rw (le-ltb most_bytes (length s) l)

pub text_ended : (k : ℕ) (r : Reading) → read_lines (split newline []) k r ≡ answer_of r
unfolding read_lines split
text_ended k r = refl

-- ---- one line of it

-- the answer by a line, and by what follows it
abbrev answer : Option Line → ℕ → Reading → List ℕ → Answer
answer line k r rest = answer_by line k r (read_lines (split newline rest) (k + 1))

-- the line before a newline
line_ended : (part rest : List ℕ) (k : ℕ) (r : Reading)
    → read_lines (part ∷ split newline rest) k r ≡ answer (line_of part) k r rest
unfolding read_lines
line_ended part rest k r = rw (split_first newline rest).1

-- bytes that no newline ends
line_unended : (part : List ℕ) (k : ℕ) (r : Reading) → 0 < length part → read_lines (part ∷ []) k r ≡ refused 2 k
unfolding read_lines
line_unended part k r l = rw (ne_eqb (length part) 0 (λ e. omega arith))

-- the lines from `t` on, of which there are some
module _ (t : List ℕ) (k : ℕ) (r : Reading) where
  found : part_length newline t < length t
      → read_lines (split newline t) k r ≡ answer (line_of (first_part newline t)) k r (drop (part_length newline t + 1) t)
  found l =
      ap (λ (x : List (List ℕ)). read_lines x k r) (split_more newline t l)
      ∙ line_ended (first_part newline t) (drop (part_length newline t + 1) t) k r

  lost : length t ≤ part_length newline t → 0 < length t → read_lines (split newline t) k r ≡ refused 2 k
  lost l m =
      ap (λ (x : List (List ℕ)). read_lines x k r) (split_last newline t l)
      ∙ line_unended (first_part newline t) k r (omega (arith, part_length_lem newline t))

abbrev ended_at : ℕ → Option Line → Option (Line × ℕ)
ended_at e = option_map (λ line. (line, e))

module _ (s : List ℕ) (at k : ℕ) (r : Reading) (inside : at < length s) where
  more : 0 < length (drop at s)
  more = omega (arith, length-drop at s)

  -- a line that has none of the forms
  pub line_missing : line_at s at ≡ None → read_lines (split newline (drop at s)) k r ≡ refused 2 k
  unfolding line_at
  line_missing f =
      by_test (ltb (part_length newline (drop at s)) (length (drop at s)))
      (λ t. found (drop at s) k r (ltb-true _ _ t)
      ∙ ap (λ (x : Option Line). answer x k r (drop (part_length newline (drop at s) + 1) (drop at s))) (none_of _ (rw t at f)))
      (λ t. lost (drop at s) k r (ltb-false _ _ t) more)
    where
      none_of : (o : Option Line) → ended_at (at + part_length newline (drop at s)) o ≡ None → o ≡ None
      none_of None e = refl
      none_of (Some line) e = absurd (none-some _ (sym e))

  module _ (line : Line) (end : ℕ) (f : line_at s at ≡ Some (line, end)) where
    record There : Type 0 where
      newline_follows : part_length newline (drop at s) < length (drop at s)
      form : line_of (first_part newline (drop at s)) ≡ Some line
      ends : at + part_length newline (drop at s) ≡ end

    there : There
    unfolding line_at
    there = go _ refl _ refl f
      where
        go : (b : Bool) → ltb (part_length newline (drop at s)) (length (drop at s)) ≡ b
            → (o : Option Line) → line_of (first_part newline (drop at s)) ≡ o
            → cond b (ended_at (at + part_length newline (drop at s)) o) None ≡ Some (line, end) → There
        go true t (Some m) g e =
            let same = same_Some _ _ e in
            record {
              newline_follows = ltb-true _ _ t;
              form = g ∙ ap (λ (x : Line × ℕ). Some x.0) same;
              ends = ap (λ (x : Line × ℕ). x.1) same;
            }
        go true t None g e = absurd (none-some _ e)
        go false t o g e = absurd (none-some _ e)

    line_read : read_lines (split newline (drop at s)) k r ≡ answer (Some line) k r (drop (end + 1) s)
    line_read =
        let p : drop (part_length newline (drop at s) + 1) (drop at s) ≡ drop (end + 1) s =
        rw (← there.ends) (drop_past s at (part_length newline (drop at s))) in
        found (drop at s) k r there.newline_follows
        ∙ ap₂ (λ (x : Option Line) (y : List ℕ). answer x k r y) there.form p

    pub line_taken : line_fault r line ≡ 0
        → read_lines (split newline (drop at s)) k r ≡ read_lines (split newline (drop (end + 1) s)) (k + 1) (line_done r line)
    line_taken g = line_read ∙ rw (eq-eqb (line_fault r line) 0 g)

    pub line_refused : {n : ℕ} → n ≡ line_fault r line → (n ≡ 0 → ⊥) → read_lines (split newline (drop at s)) k r ≡ refused n k
    line_refused {n} g h = line_read ∙ rw (← g, ne_eqb n 0 h)

    -- a line that was read ends before the end of the text
    pub line_within : (at ≤ end) × (end < length s)
    line_within = (omega (arith, there.ends), omega (arith, there.ends, there.newline_follows, length-drop at s))
