-- The limits of times, deadlines and not-before instants, the stages around a not-before instant, and the margins of five tasks, on
-- plan A. Assumes nothing.
use Rattle.std.specs.Prelude.{cond, List, [], ◌∷◌, ◌++◌, ℕ, zero, suc, ℤ, pos, negsuc, replicate}
use Rattle.plan.specs.Rules.{last_instant}
use Rattle.runs.specs.Running.{worst, horizon, bound}
use Rattle.runs.specs.Progress.{stage, level}
use Rattle.runs.specs.Journal.{journal}
use Rattle.simulation.specs.Simulated.{simulation_verdict}
use Rattle.slack.specs.declared.Slacks.{Slacks}
use Rattle.slack.specs.Margins.{slack_at, slacks_of, least_slack, greatest_slack}
use Rattle.worked_examples.specs.PlanA.{none, plan_long, plan_due, plan_from, plan_a, plan_warm, order_a}
use Rattle.worked_examples.specs.Rows.{Row, row}
use Rattle.worked_examples.specs.Table.{said, check}

-- what the simulation says to the times listed
unfoldable pub simulate : List ℕ → List ℕ
simulate times = said (simulation_verdict plan_a order_a times)

-- an integer as two numbers: how far above zero, how far below
abbrev pub over : ℤ → List ℕ
over (pos n) = n ∷ 0 ∷ []
over (negsuc n) = 0 ∷ suc n ∷ []

-- the margins of the first n tasks
unfoldable pub margins_of : Slacks → ℕ → List ℕ
margins_of s zero = []
margins_of s (suc t) = margins_of s t ++ over (slack_at s.slacks t)

-- with these deadlines: whether there are any, the least margin, its task, and the margins of the five tasks
unfoldable pub margins : List ℕ → List ℕ
margins deadlines =
    let s = slacks_of (plan_due deadlines) order_a in
    cond s.any 1 0 ∷ over s.least ++ s.task ∷ margins_of s 5

-- what the check says to this worst time of task 4
unfoldable pub lasting : ℕ → List ℕ
lasting time = check (plan_long time) order_a

-- what the check says to these deadlines of task 4 and of number 5, which is absent
unfoldable pub due : ℕ → ℕ → List ℕ
due d absent = check (plan_due (0 ∷ 0 ∷ 0 ∷ 0 ∷ d ∷ absent ∷ [])) order_a

-- what the check says to these not-before instants of the same two
unfoldable pub from : ℕ → ℕ → List ℕ
from r absent = check (plan_from (0 ∷ 0 ∷ 0 ∷ 0 ∷ r ∷ absent ∷ [])) order_a

-- how far task 1 is (0 waiting, 1 ready, 2 running, 3 finished) after these reports on the plan with N 1 4
unfoldable pub reached : List ℕ → List ℕ
reached reports = level (stage plan_warm (worst plan_warm order_a) (journal plan_warm order_a reports) 1) ∷ []

unfoldable pub limit_table : List Row
limit_table =
    row (lasting 65536 ++ lasting 1000000 ++ lasting 1000001) (0 ∷ 0 ∷ 0 ∷ 0 ∷ 8 ∷ 0 ∷ [])
    ∷ row (due 65536 0 ++ due 1000000 0 ++ due 1000001 0 ++ due 1000000 1) (0 ∷ 0 ∷ 0 ∷ 0 ∷ 8 ∷ 0 ∷ 8 ∷ 0 ∷ [])
    ∷ row (from 1000000 0 ++ from 1000001 0 ++ from 1000000 1) (0 ∷ 0 ∷ 8 ∷ 0 ∷ 8 ∷ 0 ∷ [])
    ∷ row (last_instant ∷ over least_slack ++ over greatest_slack) (65000000 ∷ 0 ∷ 64999999 ∷ 999999 ∷ 0 ∷ [])
    ∷ row (reached (1 ∷ 0 ∷ 0 ∷ []) ++ reached (1 ∷ 0 ∷ 0 ∷ 0 ∷ [])) (1 ∷ 2 ∷ [])
    ∷ row (bound plan_warm order_a ∷ horizon plan_warm (worst plan_warm order_a) ∷ []) (10 ∷ 18 ∷ [])
    ∷ row (margins (3 ∷ 5 ∷ 5 ∷ 0 ∷ 9 ∷ 0 ∷ [])) (1 ∷ 0 ∷ 1 ∷ 2 ∷ 1 ∷ 0 ∷ 0 ∷ 0 ∷ 0 ∷ 1 ∷ 0 ∷ 0 ∷ 1 ∷ 0 ∷ [])
    ∷ row (margins (0 ∷ 7 ∷ 0 ∷ 10 ∷ 0 ∷ 0 ∷ [])) (1 ∷ 2 ∷ 0 ∷ 1 ∷ 0 ∷ 0 ∷ 2 ∷ 0 ∷ 0 ∷ 0 ∷ 2 ∷ 0 ∷ 0 ∷ 0 ∷ [])
    ∷ row (margins none) (replicate 14 0)
    ∷ row (simulate (1 ∷ 1 ∷ 1 ∷ 1 ∷ 1 ∷ []) ++ simulate (1 ∷ 1 ∷ 0 ∷ 1 ∷ 1 ∷ [])) (0 ∷ 0 ∷ 18 ∷ 2 ∷ [])
    ∷ []
