-- The worked examples P1 to P12 (document 01, "Runs on plan A"; P11 as document 02, 1 has it) and some more on plan A, as one table.
-- Assumes nothing.
use Rattle.std.specs.Prelude.{cond, List, [], ◌∷◌, ◌++◌, ℕ, eqb}
use Rattle.task_set.specs.Bounded.{tabulate}
use Rattle.plan.specs.declared.Plan.{Plan}
use Rattle.plan.specs.declared.Constraint.{Constraint}
use Rattle.plan.specs.declared.Verdict.{Verdict}
use Rattle.plan.specs.Rules.{time_of}
use Rattle.plan.specs.Refusals.{no_plan, no_constraint, verdict}
use Rattle.runs.specs.Running.{type_of, worst, or_zero, ended, response}
use Rattle.runs.specs.Journal.{Answer, opening_answer, journal, answers}
use Rattle.worked_examples.specs.PlanA.{plan_one, plan_a, five_entries, order_a, order_b}
use Rattle.worked_examples.specs.Rows.{Row, row}

-- the starts by task number, and the response
unfoldable pub run : Plan → Constraint → (ℕ → ℕ) → List ℕ
run p c d = tabulate 5 (λ t. or_zero ((ended p c d).start t)) ++ response p c d ∷ []

-- number and place
abbrev pub said : Verdict → List ℕ
said v = v.number ∷ v.place ∷ []

unfoldable pub check : Plan → Constraint → List ℕ
check p c = said (verdict p c)

-- number, place and started set of the opening and of each report
abbrev pub numbers : Answer → List ℕ
numbers a = a.number ∷ a.place ∷ a.started ∷ []

unfoldable pub listed : List Answer → List ℕ
listed [] = []
listed (a ∷ rest) = numbers a ++ listed rest

unfoldable pub ticks_on : Plan → Constraint → List ℕ → List ℕ
ticks_on p c reports = numbers (opening_answer p c) ++ listed (answers p c reports)

unfoldable pub ticks : List ℕ → List ℕ
ticks = ticks_on plan_a order_a

-- the finishes that are noted after the reports, by task number
unfoldable pub finishes : List ℕ → List ℕ
finishes reports = tabulate 5 (λ t. or_zero ((journal plan_a order_a reports).finish t))

-- P1 to P12; then both faults (document 02, 7), every time 1 (document 02, 1), and what the check says to plan A and to no plan
unfoldable pub table : List Row
table =
    row (run plan_a order_a (worst plan_a order_a)) (0 ∷ 2 ∷ 2 ∷ 5 ∷ 6 ∷ 8 ∷ [])
    ∷ row (run plan_a order_a (λ t. time_of plan_a.bcet t (type_of order_a t))) (0 ∷ 1 ∷ 1 ∷ 2 ∷ 3 ∷ 4 ∷ [])
    ∷ row (run plan_a order_a (λ t. cond (eqb t 2) 2 (worst plan_a order_a t))) (0 ∷ 2 ∷ 2 ∷ 5 ∷ 5 ∷ 8 ∷ [])
    ∷ row (run plan_a order_b (worst plan_a order_b)) (0 ∷ 2 ∷ 5 ∷ 5 ∷ 9 ∷ 11 ∷ [])
    ∷ row (run plan_one order_a (worst plan_one order_a)) (0 ∷ 2 ∷ 2 ∷ 6 ∷ 6 ∷ 9 ∷ [])
    ∷ row (check plan_a (five_entries (2 ∷ 0 ∷ 1 ∷ 3 ∷ 4 ∷ []) (1 ∷ 0 ∷ 0 ∷ 1 ∷ 0 ∷ []))) (11 ∷ 0 ∷ [])
    ∷ row (check plan_a (five_entries (0 ∷ 1 ∷ 2 ∷ 3 ∷ 4 ∷ []) (0 ∷ 1 ∷ 1 ∷ 1 ∷ 0 ∷ []))) (10 ∷ 1 ∷ [])
    ∷ row (check plan_a (five_entries (0 ∷ 1 ∷ 2 ∷ 3 ∷ 3 ∷ []) (0 ∷ 0 ∷ 1 ∷ 1 ∷ 1 ∷ []))) (9 ∷ 4 ∷ [])
    ∷ row (ticks (1 ∷ [])) (0 ∷ 0 ∷ 1 ∷ 0 ∷ 0 ∷ 6 ∷ [])
    ∷ row (ticks (0 ∷ 0 ∷ [])) (0 ∷ 0 ∷ 1 ∷ 0 ∷ 0 ∷ 0 ∷ 16 ∷ 0 ∷ 0 ∷ [])
    ∷ row (ticks (1 ∷ 4 ∷ []) ++ finishes (1 ∷ 4 ∷ [])) (0 ∷ 0 ∷ 1 ∷ 0 ∷ 0 ∷ 6 ∷ 0 ∷ 0 ∷ 0 ∷ 1 ∷ 0 ∷ 2 ∷ 0 ∷ 0 ∷ [])
    ∷ row (ticks (1 ∷ 8 ∷ [])) (0 ∷ 0 ∷ 1 ∷ 0 ∷ 0 ∷ 6 ∷ 14 ∷ 3 ∷ 0 ∷ [])
    -- both faults: at instant 5 tasks 2 and 3 have run their worst times. A report of task 0, which has finished, or of
    -- task 4, which has not begun, is 16 at 2; one of 2 and 4 is 16 at 3; one of 2, 3 and 4 is 14 at 4; one of 2 and 3 is taken, and 4 begins
    ∷ row (ticks (1 ∷ 2 ∷ 0 ∷ 0 ∷ 1 ∷ 16 ∷ 20 ∷ 28 ∷ 12 ∷ []))
    (0 ∷ 0 ∷ 1 ∷ 0 ∷ 0 ∷ 6 ∷ 0 ∷ 0 ∷ 8 ∷ 0 ∷ 0 ∷ 0 ∷ 0 ∷ 0 ∷ 0 ∷ 16 ∷ 2 ∷ 0 ∷ 16 ∷ 2 ∷ 0 ∷ 16 ∷ 3 ∷ 0 ∷ 14 ∷ 4 ∷ 0 ∷ 0 ∷ 0 ∷ 16 ∷ [])
    ∷ row (run plan_a order_a (λ t. 1)) (0 ∷ 1 ∷ 1 ∷ 2 ∷ 2 ∷ 3 ∷ [])
    ∷ row (check plan_a order_a ++ check no_plan no_constraint) (0 ∷ 0 ∷ 8 ∷ 0 ∷ [])
    ∷ []
