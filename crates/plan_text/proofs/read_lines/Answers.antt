-- `plan_text::read_lines` meets its contract: the answer is that of the lines left, after what was read so far. Assumes nothing.
use mathlib.Core.Path.{◌≡◌, sym, ap, subst, ◌∙◌}
use mathlib.Core.Bool.{false}
use Prim.Native.Nat.{ℕ, ◌<◌}
use native.Mathlib.Omega.{arith}
use lib.ListN.{drop_of_length-le}
use borrow.Author.Rules.{rules}
use Rattle.std.proofs.Common.{Option, None}
use Rattle.plan.specs.declared.Plan.{Plan}
use Rattle.plan.specs.declared.Constraint.{Constraint}
use Rattle.plan.specs.Rules.{most_tasks}
use Rattle.text_form.specs.declared.Line.{Line}
use Rattle.text_form.specs.declared.Line.TheVariants.{Choice}
use Rattle.text_fault.specs.declared.Seen.{Seen}
use Rattle.text_fault.specs.declared.Fault.{Fault}
use Rattle.text_fault.specs.declared.Fault.TheVariants.{OutOfRange, AtOdds, TooLate, Unknown, Repeated}
use Rattle.text_fault.specs.declared.Kind.TheVariants as Kind
use Rattle.text_fault.specs.Faults.{fault_number, number_of}
use Rattle.text_range.specs.Ranges.{out_of_range}
use Rattle.text_fill.specs.Adding.{counted}
use Rattle.plan_text.specs.Reading.{Reading, line_fault, line_done}
use Rattle.plan_text.specs.Text as text
use Rattle.plan_text.proofs.Texts.{text_short, text_ended, line_missing, line_taken, line_refused, line_within}
use Rattle.plan_text.proofs.Faultless.{passed}
use Rattle.plan_text.proofs.Room.{Counted, counted_none, counted_more, counted_le, room}
use Rattle.plan_text.proofs.read_lines.Goals as goal

-- what was read so far
abbrev so_far : Plan → Constraint → Seen → Reading
so_far p c seen = record { plan = p; constraint = c; seen = seen }

-- a line that has no fault
module _ (r : Reading) (line : Line) {o : Option Fault} (e : number_of o ≡ line_fault r line) (f : o ≡ None) where
  faultless : line_fault r line ≡ 0
  faultless = sym e ∙ ap number_of f

  range : out_of_range line ≡ false
  range = (passed r line faultless).range

  roomy : Counted r → (t k : ℕ) → line ≡ Choice t k → r.constraint.len < most_tasks
  roomy = room r faultless

-- a fault has a number
numbered : (fault : Fault) → fault_number fault ≡ 0 → ⊥
numbered OutOfRange e = omega arith
numbered AtOdds e = omega arith
numbered TooLate e = omega arith
numbered Unknown e = omega arith
numbered Repeated e = omega arith

pub loop-at-init : goal.loop-at-init
loop-at-init c =
    rw (c.requires.0.0, c.requires.0.1, c.no_line-seen.ensures)
    (search rules, search rules, text_short _ c.requires.1, counted_none, search rules)

pub returns-in_default : goal.returns-in_default
returns-in_default c =
    rw c.refused.ensures
    (sym (c.loop-at.invariant.2
    ∙ line_missing c.args.text.now c.loop-at.at c.loop-at.place (so_far c.loop-at.p c.loop-at.c c.loop-at.seen) c.loop-at-test.true
    (sym c.line_at.ensures ∙ c.in_default.is)))

pub returns-in-Some-line_fault : goal.returns-in-Some-line_fault
returns-in-Some-line_fault c =
    rw (c.refused-in-Some-line_fault.ensures, c.number.ensures)
    (sym (c.loop-at.invariant.2
    ∙ line_refused c.args.text.now c.loop-at.at c.loop-at.place (so_far c.loop-at.p c.loop-at.c c.loop-at.seen) c.loop-at-test.true
    c.in-Some.line c.in-Some.end (sym c.line_at.ensures ∙ c.in-Some.is)
    (ap number_of (sym c.in-Some-line_fault.is) ∙ c.line_fault.ensures) (numbered c.in-Some-line_fault.fault)))

pub add_to_plan-requires : goal.add_to_plan-requires
add_to_plan-requires c = (
  λ k n e. omega (arith, c.loop-at.invariant, c.requires.1),
  range (so_far c.loop-at.p c.loop-at.c c.loop-at.seen) c.in-Some.line c.line_fault.ensures c.in_default-line_fault.is,
)

pub add_to_constraint-requires : goal.add_to_constraint-requires
add_to_constraint-requires c =
    roomy (so_far c.loop-at.p c.loop-at.c c.loop-at.seen) c.in-Some.line c.line_fault.ensures c.in_default-line_fault.is
    c.loop-at.invariant.3

pub overflow_add-at : goal.overflow_add-at
overflow_add-at c =
    let b = line_within c.args.text.now c.loop-at.at c.loop-at.place (so_far c.loop-at.p c.loop-at.c c.loop-at.seen)
    c.loop-at-test.true c.in-Some.line c.in-Some.end (sym c.line_at.ensures ∙ c.in-Some.is) in
    omega (arith, b, c.requires.1)

pub overflow_add-place : goal.overflow_add-place
overflow_add-place c = omega (arith, c.loop-at.invariant, c.requires.1)

pub loop-at-smaller : goal.loop-at-smaller
loop-at-smaller c =
    let b = line_within c.args.text.now c.loop-at.at c.loop-at.place (so_far c.loop-at.p c.loop-at.c c.loop-at.seen)
    c.loop-at-test.true c.in-Some.line c.in-Some.end (sym c.line_at.ensures ∙ c.in-Some.is) in
    omega (arith, b, c.loop-at-test.true)

pub loop-at-preserved : goal.loop-at-preserved
unfolding line_done
loop-at-preserved c =
    let r : Reading = so_far c.loop-at.p c.loop-at.c c.loop-at.seen in
    let line : Line = c.in-Some.line in
    let form = sym c.line_at.ensures ∙ c.in-Some.is in
    let b = line_within c.args.text.now c.loop-at.at c.loop-at.place r c.loop-at-test.true line c.in-Some.end form in
    let f : line_fault r line ≡ 0 = faultless r line c.line_fault.ensures c.in_default-line_fault.is in
    let d : ◌≡◌ {A = Reading} _ (line_done r line) =
    λ i.
    record { plan = c.add_to_plan.ensures i; constraint = c.add_to_constraint.ensures i; seen = c.seen-seen.ensures i } in
    let types : c.add_to_plan.new.p.types ≡ counted line Kind.U c.loop-at.p.types =
    ap (λ (x : Reading). x.plan.types) d in (
      omega (arith, b),
      omega (arith, b, c.loop-at.invariant.1),
      c.loop-at.invariant.2
          ∙ line_taken c.args.text.now c.loop-at.at c.loop-at.place r c.loop-at-test.true line c.in-Some.end form f
          ∙ ap (text.read_lines _ _) (sym d),
      subst Counted (sym d) (counted_more r line f c.loop-at.invariant.3),
      omega (arith, types, c.loop-at.invariant.4, counted_le line Kind.U c.loop-at.p.types),
    )

pub returns : goal.returns
returns c =
    sym (c.loop-at.invariant.2
    ∙ rw (drop_of_length-le c.args.text.now c.loop-at-test.false)
    (text_ended c.loop-at.place (so_far c.loop-at.p c.loop-at.c c.loop-at.seen)))
