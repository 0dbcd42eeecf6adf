-- A plan text, line by line (document 01, "The plan text", and "When an operation says no", Reading). Assumes nothing.
use Rattle.std.specs.Prelude.{cond, List, [], ◌∷◌, Option, None, Some, Result, Ok, Err, ℕ, ◌+◌, eqb, ltb, length}
use Rattle.plan.specs.declared.Plan.{Plan}
use Rattle.plan.specs.declared.Constraint.{Constraint}
use Rattle.plan.specs.declared.Verdict.{Verdict}
use Rattle.plan.specs.Refusals.{no_plan, no_constraint}
use Rattle.text_form.specs.declared.Line.{Line}
use Rattle.text_form.specs.Form.{most_bytes, newline, split, line_of}
use Rattle.plan_text.specs.declared.Answer.{Answer}
use Rattle.plan_text.specs.Reading.{Reading, nothing, line_fault, line_done}

-- "Plan and constraint come back all zero"
abbrev pub refused : ℕ → ℕ → Answer
refused number place = record { number = number; place = place; plan = no_plan; constraint = no_constraint }

abbrev pub answer_of : Reading → Answer
answer_of r = record { number = 0; place = 0; plan = r.plan; constraint = r.constraint }

-- the answer by line k and, where it has no fault, by what follows it; 2 is "not one of the .. line forms", which are six with D and N
abbrev pub answer_by : Option Line → ℕ → Reading → (Reading → Answer) → Answer
answer_by None k r further = refused 2 k
answer_by (Some line) k r further =
    let fault = line_fault r line in
    let next = further (line_done r line) in
    cond (eqb fault 0) next (refused fault k)

-- the lines from line k on, after what was read; "the first faulty line decides"; what follows the last newline must be empty
unfoldable pub read_lines : List (List ℕ) → ℕ → Reading → Answer
read_lines [] k r = answer_of r
read_lines (end ∷ []) k r = cond (eqb (length end) 0) (answer_of r) (refused 2 k)
read_lines (line ∷ next ∷ rest) k r = answer_by (line_of line) k r (read_lines (next ∷ rest) (k + 1))

unfoldable pub read_text : List ℕ → Answer
read_text s = cond (ltb most_bytes (length s)) (refused 1 0) (read_lines (split newline s) 1 nothing)

-- the answer by what the lines leave
abbrev pub answer_from : Result Unit Verdict → Plan → Constraint → Answer
answer_from (Ok done) p c = record { number = 0; place = 0; plan = p; constraint = c }
answer_from (Err refusal) p c = refused refusal.number refusal.place
