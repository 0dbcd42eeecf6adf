-- The lines of a run (document 01, "Timetable and program"). Assumes nothing.
use Rattle.std.specs.Prelude.{List, ◌∷◌, ◌++◌, ℕ}
use Rattle.plan.specs.declared.Constraint.{Constraint}
use Rattle.plan.specs.Refusals.{entry_at}
use Rattle.simulation_run.specs.declared.Simulation.{Simulation}
use Rattle.table_lines.specs.Texts.{field, joined}

-- "task, type, start, finish"
abbrev pub line : ℕ → ℕ → ℕ → ℕ → List ℕ
line t k s f = (field t 9 ++ field k 9) ++ (field s 9 ++ field f 10)

-- "A line for each task in execution order": that of position i; starts and finishes are by task number
abbrev pub line_at : List ℕ → List ℕ → List ℕ → List ℕ → ℕ → List ℕ
line_at order chosen starts finishes i =
    let t = entry_at order i in line t (entry_at chosen i) (entry_at starts t) (entry_at finishes t)

-- the lines of the first positions
abbrev pub lines : List ℕ → List ℕ → List ℕ → List ℕ → ℕ → List ℕ
lines order chosen starts finishes = joined (line_at order chosen starts finishes)

-- "Last, `R` and the response"
unfoldable pub text_by : List ℕ → List ℕ → List ℕ → List ℕ → ℕ → ℕ → List ℕ
text_by order chosen starts finishes n response = lines order chosen starts finishes n ++ 82 ∷ 9 ∷ field response 10

-- ---- of a constraint and its run

abbrev pub lines_of : Constraint → Simulation → ℕ → List ℕ
lines_of c s = lines c.order c.chosen s.starts s.finishes

abbrev pub text_of : Constraint → Simulation → List ℕ
text_of c s = text_by c.order c.chosen s.starts s.finishes c.len s.response
