-- The timetable (document 01, "Timetable and program"; "When an operation says no", Timetable). Assumes nothing.
use Rattle.std.specs.Prelude.{List, ℕ}
use Rattle.plan.specs.declared.Plan.{Plan}
use Rattle.plan.specs.declared.Constraint.{Constraint}
use Rattle.plan.specs.Refusals.{refused}
use Rattle.simulation.specs.Simulated.{simulated, worst_case}
use Rattle.table_lines.specs.declared.Written.{Written}
use Rattle.table_lines.specs.Texts.{answered, bytes_after}
use Rattle.table_run_lines.specs.RunText.{text_of}

-- "the longest timetable is 1,456 bytes" (document 02, 6)
abbrev pub longest_timetable : ℕ
longest_timetable = 1456

-- ---- the timetable of given times: "8 to 11, 17, 18" of the simulation, "then 19"

unfoldable pub timetabled : Plan → Constraint → List ℕ → ℕ → Written
timetabled p c times = let s = simulated p c times in answered (refused s.number s.place) (text_of c s)

unfoldable pub buffer_after : Plan → Constraint → List ℕ → List ℕ → List ℕ
buffer_after p c times = let s = simulated p c times in bytes_after (refused s.number s.place) (text_of c s)

-- ---- the timetable of worst times, which the program writes: 8 to 11, then 19

unfoldable pub worst_timetabled : Plan → Constraint → ℕ → Written
worst_timetabled p c = let s = worst_case p c in answered (refused s.number s.place) (text_of c s)

unfoldable pub worst_buffer_after : Plan → Constraint → List ℕ → List ℕ
worst_buffer_after p c = let s = worst_case p c in bytes_after (refused s.number s.place) (text_of c s)
