-- What a line without a fault is. Assumes nothing.
use mathlib.Core.Path.{◌≡◌, refl}
use mathlib.Core.Bool.{Bool, true, false, cond}
use Prim.Native.Nat.{ℕ}
use native.Mathlib.Omega.{arith}
use lib.Dec.{ltb}
use Rattle.text_form.specs.declared.Line.{Line}
use Rattle.text_fault.specs.Faults.{kind_rank, kind_of, unknown, repeated, first_fault}
use Rattle.text_range.specs.Ranges.{out_of_range, at_odds}
use Rattle.plan_text.specs.Reading.{Reading, line_fault}

-- it passes each test
pub record Passed (r : Reading) (line : Line) : Type 0 where
  pub range : out_of_range line ≡ false
  pub known : unknown r.plan.types r.seen.timed line ≡ false
  pub new : repeated r.plan.wcet r.plan.predecessors r.plan.deadlines r.seen line ≡ false

pub passed : (r : Reading) (line : Line) → line_fault r line ≡ 0 → Passed r line
unfolding first_fault
passed r line e = go (out_of_range line) (at_odds line) (ltb (kind_rank (kind_of line)) (kind_rank r.seen.kind)) _ _ refl refl refl e
  where
    go : (a b c d f : Bool) → out_of_range line ≡ a → unknown r.plan.types r.seen.timed line ≡ d
        → repeated r.plan.wcet r.plan.predecessors r.plan.deadlines r.seen line ≡ f
        → ◌≡◌ {A = ℕ} (cond a 3 (cond b 4 (cond c 5 (cond d 6 (cond f 7 0))))) 0 → Passed r line
    go true b c d f p q s e = absurd (omega arith)
    go false true c d f p q s e = absurd (omega arith)
    go false false true d f p q s e = absurd (omega arith)
    go false false false true f p q s e = absurd (omega arith)
    go false false false false true p q s e = absurd (omega arith)
    go false false false false false p q s e = record { range = p; known = q; new = s }
