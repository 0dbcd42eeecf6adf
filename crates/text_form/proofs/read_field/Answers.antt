-- `text_form::read_field` meets its contract: the bytes passed are digits, and no tab. Assumes nothing.
use mathlib.Core.Path.{◌≡◌, sym, ap, ◌∙◌}
use mathlib.Core.List.{List}
use Prim.Native.Nat.{ℕ, ◌+◌, ◌<◌}
use native.Mathlib.Omega.{arith}
use lib.ListN.{length, take, drop, get_or}
use borrow.Author.Rules.{rules}
use Rattle.text_form.specs.Form.{tab}
use Rattle.text_form.specs.Steps.{part_length, first_part, field_of}
use Rattle.text_form.proofs.Parts.{part_found, part_more}
use Rattle.text_form.proofs.Decimal.{digits_none, digits_more, field_stopped}
use Rattle.text_form.proofs.read_field.Goals as goal

module _ (s : List ℕ) (n : ℕ) (all : n + part_length tab (drop n s) ≡ part_length tab s) where
  -- at the end of the first part: its field is that of the digits passed
  ended : part_length tab (drop n s) ≡ 0 → field_of (take n s) ≡ field_of (first_part tab s)
  ended e = let z : n ≡ part_length tab s = omega arith in ap (λ (k : ℕ). field_of (take k s)) z

  -- no tab: the first part goes on
  inside : n < length s → (get_or s n 0 ≡ tab → ⊥) → n < part_length tab s
  inside l e = omega (arith, part_more tab s n l e)

pub loop-n-init : goal.loop-n-init
loop-n-init c = (digits_none _, search rules)

pub returns-then-b-eq-TAB : goal.returns-then-b-eq-TAB
returns-then-b-eq-TAB c =
    c.field_of.ensures
    ∙ ended _ _ c.loop-n.invariant.1 (part_found tab c.args.s.now c.loop-n.n c.loop-n-test.true c.if-b-eq-TAB.true)

pub returns-then-n-is_ascii_digit : goal.returns-then-n-is_ascii_digit
returns-then-n-is_ascii_digit c =
    sym (field_stopped _ _ (inside _ _ c.loop-n.invariant.1 c.loop-n-test.true c.if-b-eq-TAB.false)
    (rw (← c.is_ascii_digit.ensures.value) c.if-n-is_ascii_digit.true))

pub loop-n-preserved : goal.loop-n-preserved
loop-n-preserved c = (
  rw (c.with_digit-value.ensures, c.from.ensures)
      (digits_more c.loop-n.invariant.0 c.loop-n-test.true (rw (← c.is_ascii_digit.ensures.value) c.if-n-is_ascii_digit.false)),
  omega (arith, part_more tab c.args.s.now c.loop-n.n c.loop-n-test.true c.if-b-eq-TAB.false),
)
