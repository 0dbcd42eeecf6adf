-- What is written of plan A: its timetable as document 01 prints it, margins, a proposed order, refusals; then from a text to the answer.
-- Assumes nothing.
use Rattle.std.specs.Prelude.{List, [], ◌∷◌, ◌++◌, ℕ, replicate}
use Prim.Native.String.{String}
use Rattle.plan.specs.declared.Plan.{Plan}
use Rattle.plan.specs.Refusals.{constraint_of, no_plan}
use Rattle.table_lines.specs.declared.Written.{Written}
use Rattle.table_lines.specs.Decimal.{decimal}
use Rattle.timetable.specs.Table.{longest_timetable, timetabled, buffer_after, worst_timetabled, worst_buffer_after}
use Rattle.table_lines.specs.Refusal.{refusal_line, line_written, line_after}
use Rattle.table_slacks.specs.SlackTable.{slack_room, slack_tabled, slack_buffer_after}
use Rattle.table_orders.specs.OrderTable.{order_room, order_tabled, order_buffer_after}
use Rattle.bench_answer.specs.Answer.{answer_text, slack_answer_text, proposal_answer_text}
use Rattle.worked_examples.specs.PlanA.{none, plan_due, plan_a, order_a}
use Rattle.worked_examples.specs.Rows.{Row, row}
use Rattle.worked_texts.specs.Bytes.{bytes}

-- number, place and bytes written
abbrev pub shown : Written → List ℕ
shown w = w.number ∷ w.place ∷ w.written ∷ []

-- a buffer of so many bytes
abbrev pub buffer : ℕ → List ℕ
buffer n = replicate n 120

-- ---- the timetable

abbrev pub timetable_a : String
timetable_a = "0\t0\t0\t2\n1\t0\t2\t5\n2\t1\t2\t6\n3\t1\t5\t8\n4\t0\t6\t8\nR\t8\n"

-- task 2 takes 2 (P3)
abbrev pub quicker : List ℕ
quicker = 2 ∷ 3 ∷ 2 ∷ 3 ∷ 2 ∷ []

unfoldable pub timetable_table : List Row
timetable_table =
    row (worst_buffer_after plan_a order_a (buffer 44)) (bytes timetable_a)
    -- 19 at one byte less, and no byte is altered; bytes behind the text are unchanged
    ∷ row (shown (worst_timetabled plan_a order_a 44) ++ shown (worst_timetabled plan_a order_a 43)) (0 ∷ 0 ∷ 44 ∷ 19 ∷ 44 ∷ 0 ∷ [])
    ∷ row (worst_buffer_after plan_a order_a (buffer 43)) (buffer 43)
    ∷ row (worst_buffer_after plan_a order_a (buffer 46)) (bytes timetable_a ++ buffer 2)
    -- of given times; 17, 18 and 11 before 19
    ∷ row (buffer_after plan_a order_a quicker (buffer 44)) (bytes "0\t0\t0\t2\n1\t0\t2\t5\n2\t1\t2\t4\n3\t1\t5\t8\n4\t0\t5\t7\nR\t8\n")
    ∷ row (shown (timetabled plan_a order_a quicker 44) ++ shown (timetabled plan_a order_a quicker 43)) (0 ∷ 0 ∷ 44 ∷ 19 ∷ 44 ∷ 0 ∷ [])
    ∷ row (shown (timetabled plan_a order_a (1 ∷ []) 0) ++ shown (timetabled plan_a order_a (2 ∷ 3 ∷ 5 ∷ 3 ∷ 2 ∷ []) 0)) (17 ∷ 1 ∷ 0 ∷ 18 ∷ 2 ∷ 0 ∷ [])
    ∷ row (shown (worst_timetabled plan_a (constraint_of 4 order_a.order order_a.chosen) 0)) (9 ∷ 4 ∷ 0 ∷ [])
    ∷ row (buffer_after plan_a order_a (1 ∷ []) (buffer 44)) (buffer 44)
    ∷ row (decimal 0 ++ decimal 9 ++ decimal 10 ++ decimal 65000000) (bytes "091065000000")
    ∷ row (decimal 18446744073709551615) (bytes "18446744073709551615")
    ∷ row (longest_timetable ∷ slack_room ∷ order_room ∷ []) (1456 ∷ 1935 ∷ 448 ∷ [])
    ∷ []

-- ---- margins, a proposed order, the line of a refusal

abbrev pub due : Plan
due = plan_due (3 ∷ 5 ∷ 5 ∷ 0 ∷ 19 ∷ 0 ∷ [])

abbrev pub margins_due : String
margins_due = "0\t3\t2\t1\n1\t5\t5\t0\n2\t5\t6\t-1\n4\t19\t8\t11\nL\t-1\t2\n"

abbrev pub ordered_a : String
ordered_a = "C\t0\t0\nC\t1\t0\nC\t2\t1\nC\t3\t1\nC\t4\t0\n"

unfoldable pub line_table : List Row
line_table =
    row (slack_buffer_after due order_a (buffer 43)) (bytes margins_due ++ buffer 1)
    ∷ row (shown (slack_tabled due order_a 42) ++ shown (slack_tabled due order_a 41)) (0 ∷ 0 ∷ 42 ∷ 19 ∷ 42 ∷ 0 ∷ [])
    ∷ row (slack_buffer_after due order_a (buffer 41)) (buffer 41)
    ∷ row (slack_buffer_after plan_a order_a (buffer 13)) (bytes "no deadlines\n")
    ∷ row (shown (slack_tabled plan_a order_a 13) ++ shown (slack_tabled plan_a order_a 12)) (0 ∷ 0 ∷ 13 ∷ 19 ∷ 13 ∷ 0 ∷ [])
    ∷ row (shown (slack_tabled due (constraint_of 4 order_a.order order_a.chosen) 0)) (9 ∷ 4 ∷ 0 ∷ [])
    ∷ row (order_buffer_after plan_a (buffer 31)) (bytes ordered_a ++ buffer 1)
    ∷ row (shown (order_tabled plan_a 30) ++ shown (order_tabled plan_a 29)) (0 ∷ 0 ∷ 30 ∷ 19 ∷ 30 ∷ 0 ∷ [])
    ∷ row (order_buffer_after plan_a (buffer 29)) (buffer 29)
    ∷ row (shown (order_tabled no_plan 0)) (8 ∷ 0 ∷ 0 ∷ [])
    ∷ row (order_buffer_after no_plan (buffer 3)) (buffer 3)
    -- a line of a refusal has its length, or does not fit and is not written
    ∷ row (refusal_line 2 12) (bytes "refused\t2\t12\n")
    ∷ row (line_written 13 (refusal_line 2 12) ∷ line_written 12 (refusal_line 2 12) ∷ []) (13 ∷ 0 ∷ [])
    ∷ row (line_after (buffer 14) (refusal_line 2 12)) (bytes "refused\t2\t12\n" ++ buffer 1)
    ∷ row (line_after (buffer 12) (refusal_line 2 12)) (buffer 12)
    ∷ []

-- ---- from a text to the answer

-- plan A (document 01, "Timetable and program"), without its order
abbrev pub text_a : String
text_a = "U\t0\t1\nU\t1\t2\nT\t0\t0\t1\t2\nT\t1\t0\t1\t3\nT\t2\t1\t2\t4\nT\t3\t0\t2\t5\nT\t3\t1\t1\t3\nT\t4\t0\t1\t2\nA\t0\t2\nA\t1\t3\nA\t2\t4\n"

abbrev pub deadlines : String
deadlines = "D\t0\t3\nD\t1\t5\nD\t2\t5\nD\t4\t19\n"

unfoldable pub answer_table : List Row
answer_table =
    row (answer_text (bytes text_a ++ bytes ordered_a)) (bytes timetable_a)
    ∷ row (slack_answer_text (bytes text_a ++ bytes deadlines ++ bytes ordered_a)) (bytes margins_due)
    ∷ row (proposal_answer_text (bytes text_a)) (bytes ordered_a)
    -- refused by the reader, by the check, by the proposal; the order of the text has no say in a proposal, but must be readable
    ∷ row (answer_text (bytes "U\t0\t1\nT\t0\t0\t07\t9\n") ++ answer_text []) (bytes "refused\t2\t2\nrefused\t8\t0\n")
    ∷ row (answer_text (bytes text_a) ++ slack_answer_text (bytes text_a)) (bytes "refused\t9\t0\nrefused\t9\t0\n")
    ∷ row (slack_answer_text (bytes "X\n") ++ proposal_answer_text (bytes "X\n")) (bytes "refused\t2\t1\nrefused\t2\t1\n")
    ∷ row (proposal_answer_text (bytes text_a ++ bytes "C\t4\t0\n")) (bytes ordered_a)
    ∷ row (proposal_answer_text (bytes text_a ++ bytes "C\t5\t0\n") ++ proposal_answer_text (bytes text_a ++ bytes "A\t4\t0\n"))
    (bytes "refused\t6\t12\nrefused\t23\t0\n")
    ∷ []
