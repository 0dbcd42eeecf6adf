-- What reading says to texts (document 01, "The plan text", and "When an operation says no", Reading). Assumes nothing.
use Rattle.std.specs.Prelude.{List, [], ◌∷◌, ◌++◌, ℕ, replicate, set}
use Prim.Native.String.{String}
use Rattle.plan.specs.Rules.{most_pairs, pair_index}
use Rattle.plan_text.specs.declared.Answer.{Answer}
use Rattle.plan_text.specs.Text.{read_text}
use Rattle.worked_examples.specs.Rows.{Row, row}
use Rattle.worked_texts.specs.Bytes.{bytes}

-- the numbers that refuse these texts, each after the same lines; 0 where it is read
unfoldable pub after : String → List String → List ℕ
after lines [] = []
after lines (text ∷ rest) = (read_text (bytes lines ++ bytes text)).number ∷ after lines rest

-- number and place
unfoldable pub read : String → List ℕ
read text = let a = read_text (bytes text) in a.number ∷ a.place ∷ []

-- every number of an answer
abbrev pub every_number : Answer → List ℕ
every_number a =
    let p = a.plan in
    let c = a.constraint in
    a.number ∷ a.place ∷ p.types ∷ p.units ++ p.tasks ∷ p.bcet ++ p.wcet ++ p.predecessors ++ p.deadlines ++ p.releases
    ++ c.len ∷ c.order ++ c.chosen

-- two types and two tasks
abbrev pub two : String
two = "U\t0\t1\nU\t1\t1\nT\t0\t0\t1\t2\nT\t1\t0\t1\t1\n"

-- 3: each range at both ends. A type that is in range and has no U line, or a task that has no T line, is 6
unfoldable pub range_table : List Row
range_table =
    row (after "" ("U\t0\t0\n" ∷ "U\t0\t1\n" ∷ "U\t0\t8\n" ∷ "U\t0\t9\n" ∷ "U\t7\t1\n" ∷ "U\t8\t1\n" ∷ [])) (3 ∷ 0 ∷ 0 ∷ 3 ∷ 6 ∷ 3 ∷ [])
    ∷ row (after "U\t0\t1\n" ("T\t63\t0\t1\t1\n" ∷ "T\t64\t0\t1\t1\n" ∷ "T\t0\t7\t1\t1\n" ∷ "T\t0\t8\t1\t1\n" ∷ [])) (0 ∷ 3 ∷ 6 ∷ 3 ∷ [])
    ∷ row (after "U\t0\t1\n" ("T\t0\t0\t0\t1\n" ∷ "T\t0\t0\t1\t1\n" ∷ "T\t0\t0\t1000000\t1000000\n" ∷ "T\t0\t0\t1000001\t1000000\n" ∷ []))
    (3 ∷ 0 ∷ 0 ∷ 3 ∷ [])
    ∷ row (after "U\t0\t1\n" ("T\t0\t0\t1\t0\n" ∷ "T\t0\t0\t1\t65536\n" ∷ "T\t0\t0\t1\t1000000\n" ∷ "T\t0\t0\t1\t1000001\n" ∷ []))
    (3 ∷ 0 ∷ 0 ∷ 3 ∷ [])
    ∷ row (after two ("A\t63\t0\n" ∷ "A\t64\t0\n" ∷ "A\t0\t63\n" ∷ "A\t0\t64\n" ∷ [])) (6 ∷ 3 ∷ 6 ∷ 3 ∷ [])
    ∷ row (after two ("D\t63\t1\n" ∷ "D\t64\t1\n" ∷ "D\t0\t0\n" ∷ "D\t0\t1\n" ∷ "D\t0\t1000000\n" ∷ "D\t0\t1000001\n" ∷ [])) (6 ∷ 3 ∷ 3 ∷ 0 ∷ 0 ∷ 3 ∷ [])
    ∷ row (after two ("N\t63\t1\n" ∷ "N\t64\t1\n" ∷ "N\t0\t0\n" ∷ "N\t0\t1000000\n" ∷ "N\t0\t1000001\n" ∷ [])) (6 ∷ 3 ∷ 0 ∷ 0 ∷ 3 ∷ [])
    ∷ row (after two ("C\t63\t0\n" ∷ "C\t64\t0\n" ∷ "C\t0\t0\n" ∷ "C\t0\t7\n" ∷ "C\t0\t8\n" ∷ [])) (6 ∷ 3 ∷ 0 ∷ 0 ∷ 3 ∷ [])
    ∷ []

-- 2: fields and forms; then 1, by the bytes of a text
unfoldable pub form_table : List Row
form_table =
    -- a field has no sign, no blank, no leading zero except for 0 itself, and only digits; `/` and `:` stand beside them
    row (after "" ("U\t0\t07\n" ∷ "U\t00\t1\n" ∷ "U\t0\t\n" ∷ "U\t\t1\n" ∷ "U\t0\t+1\n" ∷ "U\t0\t-1\n" ∷ "U\t0\t 1\n" ∷ [])) (replicate 7 2)
    ∷ row (after "" ("U\t0\t1 \n" ∷ "U\t0\t/\n" ∷ "U\t0\t:\n" ∷ "U\t0\t1x\n" ∷ "U\t0\t1\r\n" ∷ [])) (replicate 5 2)
    -- seven digits, and eight, on a line of each kind
    ∷ row (after two ("U\t0\t9999999\n" ∷ "T\t0\t0\t1\t9999999\n" ∷ "A\t0\t9999999\n" ∷ "D\t0\t9999999\n" ∷ "N\t0\t9999999\n" ∷ "C\t0\t9999999\n" ∷ []))
    (replicate 6 3)
    ∷ row (after two ("U\t0\t10000000\n" ∷ "T\t0\t0\t1\t10000000\n" ∷ "A\t0\t10000000\n" ∷ "D\t0\t10000000\n" ∷ "N\t0\t10000000\n" ∷ "C\t0\t10000000\n" ∷ []))
    (replicate 6 2)
    -- a letter, and each field after one tab; another letter, no letter, two letters
    ∷ row (after "" ("U\t0\t1" ∷ "\n" ∷ "U\n" ∷ "U\t\n" ∷ "U 0\t1\n" ∷ "U0\t1\n" ∷ "U\t\t0\t1\n" ∷ "U\t0\t1\t\n" ∷ [])) (replicate 8 2)
    ∷ row (after "" ("u\t0\t1\n" ∷ "X\t0\t1\n" ∷ "UU\t0\t1\n" ∷ "\t0\t1\n" ∷ "0\t1\n" ∷ [])) (replicate 5 2)
    -- a field too few, a field too many
    ∷ row (after two ("U\t0\n" ∷ "T\t0\t0\t1\n" ∷ "A\t0\n" ∷ "D\t0\n" ∷ "N\t0\n" ∷ "C\t0\n" ∷ [])) (replicate 6 2)
    ∷ row (after two ("U\t0\t1\t1\n" ∷ "T\t0\t0\t1\t1\t1\n" ∷ "A\t0\t1\t1\n" ∷ "D\t0\t1\t1\n" ∷ "N\t0\t1\t1\n" ∷ "C\t0\t0\t0\n" ∷ [])) (replicate 6 2)
    ∷ []

-- 4 to 7
unfoldable pub fault_table : List Row
fault_table =
    -- 4: worst below best, an arrow from a task to itself
    row (after two ("T\t1\t1\t2\t1\n" ∷ "T\t1\t1\t1\t1\n" ∷ "A\t0\t0\n" ∷ "A\t0\t1\n" ∷ [])) (4 ∷ 0 ∷ 4 ∷ 0 ∷ [])
    -- 5: a kind after a later kind
    ∷ row (after two ("U\t2\t1\n" ∷ "A\t0\t1\nU\t2\t1\n" ∷ "A\t0\t1\nT\t1\t1\t1\t1\n" ∷ "D\t0\t9\nA\t0\t1\n" ∷ [])) (5 ∷ 5 ∷ 5 ∷ 5 ∷ [])
    ∷ row (after two ("N\t0\t0\nD\t0\t9\n" ∷ "C\t0\t0\nN\t0\t0\n" ∷ "C\t0\t0\nD\t0\t9\n" ∷ "C\t0\t0\nA\t0\t1\n" ∷ [])) (5 ∷ 5 ∷ 5 ∷ 5 ∷ [])
    ∷ row (after two ("A\t0\t1\nD\t0\t9\nN\t0\t0\nC\t0\t0\nC\t1\t0\n" ∷ [])) (0 ∷ [])
    -- 6: a U type that is not the next, a T type without U line, an A, D, N or C task without T line
    ∷ row (after "U\t0\t1\n" ("U\t0\t1\n" ∷ "U\t1\t1\n" ∷ "U\t2\t1\n" ∷ "T\t0\t1\t1\t1\n" ∷ "C\t0\t0\n" ∷ [])) (6 ∷ 0 ∷ 6 ∷ 6 ∷ 6 ∷ [])
    ∷ row (after two ("A\t2\t0\n" ∷ "A\t0\t2\n" ∷ "D\t2\t1\n" ∷ "N\t2\t1\n" ∷ "C\t2\t0\n" ∷ [])) (6 ∷ 6 ∷ 6 ∷ 6 ∷ 6 ∷ [])
    -- 7: a T pair, an arrow, a D, an N or a C task given before; an N line that says 0 counts
    ∷ row (after two ("T\t0\t0\t1\t1\n" ∷ "T\t0\t1\t1\t1\n" ∷ "A\t0\t1\nA\t0\t1\n" ∷ "A\t0\t1\nA\t1\t0\n" ∷ [])) (7 ∷ 0 ∷ 7 ∷ 0 ∷ [])
    ∷ row (after two ("D\t0\t9\nD\t0\t9\n" ∷ "D\t0\t1\nD\t0\t2\n" ∷ "D\t0\t9\nD\t1\t9\n" ∷ [])) (7 ∷ 7 ∷ 0 ∷ [])
    ∷ row (after two ("N\t0\t9\nN\t0\t9\n" ∷ "N\t0\t0\nN\t0\t5\n" ∷ "N\t0\t0\nN\t1\t0\n" ∷ [])) (7 ∷ 7 ∷ 0 ∷ [])
    ∷ row (after two ("C\t0\t0\nC\t0\t0\n" ∷ "C\t0\t0\nC\t0\t1\n" ∷ "C\t0\t0\nC\t1\t0\n" ∷ [])) (7 ∷ 7 ∷ 0 ∷ [])
    -- the numbers are tried in their order, over the whole line: 2 before 3, 3 before 4, 4 before 5, 5 before 6, 5 before 7
    ∷ row (after two ("T\t64\t0\t1\t07\n" ∷ "T\t0\t0\t1000001\t1000000\n" ∷ "A\t0\t1\nT\t0\t0\t2\t1\n" ∷ "A\t0\t1\nT\t0\t7\t1\t1\n" ∷ "A\t0\t1\nT\t0\t0\t1\t1\n" ∷ []))
    (2 ∷ 3 ∷ 4 ∷ 5 ∷ 5 ∷ [])
    ∷ []

-- the place is the line counted from 1, and the first faulty line decides; an empty text is read, 32,768 bytes may be, 32,769 are 1
unfoldable pub place_table : List Row
place_table =
    row (read "X\n" ++ read "U\t0\t1\nX\n" ++ read "U\t0\t1\nT\t0\t0\t1\t2\nA\t0\t0\n") (2 ∷ 1 ∷ 2 ∷ 2 ∷ 4 ∷ 3 ∷ [])
    ∷ row (read "U\t9\t1\nX\n" ++ read "U\t0\t1\nT") (3 ∷ 1 ∷ 2 ∷ 2 ∷ [])
    ∷ row (read "") (0 ∷ 0 ∷ [])
    ∷ row ((read_text (replicate 32768 10)).number ∷ (read_text (replicate 32769 10)).number ∷ (read_text (replicate 32769 10)).place ∷ []) (2 ∷ 1 ∷ 0 ∷ [])
    ∷ []

-- what is kept of a text with every kind of line, T lines not in order, and a field of six digits; what is kept of a refused one
abbrev pub every_kind : String
every_kind = "U\t0\t2\nU\t1\t3\nT\t2\t1\t5\t987654\nT\t0\t0\t1\t2\nT\t1\t0\t1\t302\nA\t2\t0\nA\t1\t0\nD\t2\t77\nN\t0\t0\nN\t2\t1000000\nC\t2\t1\nC\t0\t0\n"

abbrev pub kept_times : ℕ → ℕ → ℕ → List ℕ
kept_times t0 t1 t2 = set (set (set (replicate most_pairs 0) (pair_index 2 1) t2) (pair_index 0 0) t0) (pair_index 1 0) t1

unfoldable pub kept_table : List Row
kept_table =
    row (every_number (read_text (bytes every_kind)))
    (0 ∷ 0 ∷ 2 ∷ (2 ∷ 3 ∷ replicate 6 0) ++ 3 ∷ kept_times 1 1 5 ++ kept_times 2 302 987654 ++ (6 ∷ replicate 63 0)
    ++ (0 ∷ 0 ∷ 77 ∷ replicate 61 0) ++ (0 ∷ 0 ∷ 1000000 ∷ replicate 61 0) ++ 2 ∷ (2 ∷ 0 ∷ replicate 62 0) ++ (1 ∷ 0 ∷ replicate 62 0))
    ∷ row (every_number (read_text (bytes every_kind ++ bytes "C\t0\t0\n"))) (7 ∷ 13 ∷ replicate 1355 0)
    ∷ row (every_number (read_text (replicate 32769 10))) (1 ∷ 0 ∷ replicate 1355 0)
    ∷ []
