-- The line of a refusal (document 01, "Timetable and program"). Assumes nothing.
use Rattle.std.specs.Prelude.{List, [], ◌∷◌, ◌++◌, ℕ}
use Rattle.plan.specs.Refusals.{no_refusal}
use Rattle.table_lines.specs.Texts.{field, answered, bytes_after}

-- "one line: `refused`, number, place, with the same tabs and newline": the word and its tab
abbrev pub refused_word : List ℕ
refused_word = 114 ∷ 101 ∷ 102 ∷ 117 ∷ 115 ∷ 101 ∷ 100 ∷ 9 ∷ []

-- the whole line
unfoldable pub refusal_line : ℕ → ℕ → List ℕ
refusal_line number place = refused_word ++ (field number 9 ++ field place 10)

-- what is answered where there is so much room: the line's length, or 0 where it does not fit
unfoldable pub line_written : ℕ → List ℕ → ℕ
line_written room line = (answered no_refusal line room).written

-- the lent buffer afterwards: bytes after the line are unchanged, and all where it does not fit
unfoldable pub line_after : List ℕ → List ℕ → List ℕ
line_after buffer line = bytes_after no_refusal line buffer
