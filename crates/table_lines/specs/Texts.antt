-- Texts of numbers, and a text that is written into a lent buffer or refused (document 01, "Timetable and program"; "When an operation
-- says no", Timetable). Assumes nothing.
use Rattle.std.specs.Prelude.{cond, List, [], ◌∷◌, ◌++◌, ℕ, zero, suc, eqb, length}
use Rattle.plan.specs.declared.Verdict.{Verdict}
use Rattle.plan.specs.Buffers.{fitted, filled}
use Rattle.table_lines.specs.declared.Written.{Written}
use Rattle.table_lines.specs.Decimal.{decimal}

-- "Decimal, tabs between, newline after each": a number and the byte that ends it, 9 for a tab and 10 for a newline
abbrev pub field : ℕ → ℕ → List ℕ
field x mark = decimal x ++ mark ∷ []

-- the first n of many texts, one after the other
unfoldable pub joined : (ℕ → List ℕ) → ℕ → List ℕ
joined text zero = []
joined text (suc i) = joined text i ++ text i

-- ---- a text that is to be written, after the refusals v that come before it

-- "then 19 .. Accepted, it answers the bytes written", where there is so much room
abbrev pub answered : Verdict → List ℕ → ℕ → Written
answered v text room =
    let f = fitted v (length text) room in
    record { number = f.number; place = f.place; written = cond (eqb f.number 0) (length text) 0 }

-- the lent buffer afterwards
abbrev pub bytes_after : Verdict → List ℕ → List ℕ → List ℕ
bytes_after v text buffer = filled (fitted v (length text) (length buffer)) text buffer
