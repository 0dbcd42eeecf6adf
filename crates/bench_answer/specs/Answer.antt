-- What the programs answer to a plan text (document 01, "Timetable and program"; document 02, 2 and 8). Assumes nothing.
use Rattle.std.specs.Prelude.{cond, List, ℕ, eqb}
use Rattle.plan.specs.declared.Verdict.{Verdict}
use Rattle.plan.specs.Refusals.{refused, first_refusal}
use Rattle.plan_text.specs.declared.Answer.{Answer}
use Rattle.plan_text.specs.Text.{read_text}
use Rattle.simulation.specs.Simulated.{worst_case}
use Rattle.proposal_theory.specs.Proposals.{proposed}
use Rattle.table_run_lines.specs.RunText.{text_of}
use Rattle.table_lines.specs.Refusal.{refusal_line}
use Rattle.table_slacks.specs.SlackTable.{slack_text_of}
use Rattle.table_orders.specs.OrderTable.{order_text_of}

-- what is shown, "or one line: `refused`, number, place": 1 to 7 of the reading, then what refuses the plan
unfoldable pub or_refused : Answer → Verdict → List ℕ → List ℕ
or_refused a refusal shown =
    let v = first_refusal (refused a.number a.place) refusal in
    cond (eqb v.number 0) shown (refusal_line v.number v.place)

-- "the timetable of worst times"; 8 to 11 of the check
unfoldable pub answer_to : Answer → List ℕ
answer_to a =
    let s = worst_case a.plan a.constraint in
    or_refused a (refused s.number s.place) (text_of a.constraint s)

-- the margins (document 02, 2)
unfoldable pub slack_answer_to : Answer → List ℕ
slack_answer_to a =
    let s = worst_case a.plan a.constraint in
    or_refused a (refused s.number s.place) (slack_text_of a.plan s)

-- the C lines of the order that the bench proposes (document 02, 8), whatever order the text has; 8 and 23
unfoldable pub proposal_answer_to : Answer → List ℕ
proposal_answer_to a =
    let r = proposed a.plan in
    or_refused a (refused r.number r.place) (order_text_of r.constraint)

unfoldable pub answer_text : List ℕ → List ℕ
answer_text text = answer_to (read_text text)

unfoldable pub slack_answer_text : List ℕ → List ℕ
slack_answer_text text = slack_answer_to (read_text text)

unfoldable pub proposal_answer_text : List ℕ → List ℕ
proposal_answer_text text = proposal_answer_to (read_text text)
