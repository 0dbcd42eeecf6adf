-- Runs, journals, not-before instants, margins and what follows from the limits, on plan A. Assumes nothing.
use Rattle.std.specs.Prelude.{cond, List, [], ◌∷◌, ◌++◌, map, ℕ, zero, suc, ℤ, pos, negsuc, replicate, take}
use Rattle.task_set.specs.Bounded.{tabulate}
use Rattle.plan.specs.declared.Plan.{Plan}
use Rattle.plan.specs.declared.Constraint.{Constraint}
use Rattle.plan.specs.Rules.{last_instant}
use Rattle.plan.specs.Refusals.{constraint_of}
use Rattle.runs.specs.Running.{Notes, worst, allowed, or_zero, timed, greatest_release, horizon, bound}
use Rattle.runs.specs.Progress.{Stage, waiting, ready, running, finished, stage, level, ticks_left, as_far}
use Rattle.runs.specs.Journal.{answers, journal, accepted_count, taken_time}
use Rattle.simulation_run.specs.declared.Simulation.{Simulation}
use Rattle.simulation.specs.Simulated.{simulation_verdict, simulated, worst_case}
use Rattle.slack.specs.declared.Slacks.{Slacks}
use Rattle.slack.specs.Margins.{slack_at, slacks_of, least_slack, greatest_slack}
use Rattle.worked_examples.specs.PlanA.{none, plan_one, plan_due, plan_a, plan_warm, five_entries, order_a}
use Rattle.worked_examples.specs.Rows.{Row, row}
use Rattle.worked_examples.specs.Table.{run, said, ticks_on, ticks}

-- ---- how far the tasks are

-- of the first tasks how far each is (0 waiting, 1 ready, 2 running, 3 finished) and its ticks left, if task t takes d t
unfoldable pub stages : Plan → (ℕ → ℕ) → Notes → ℕ → List ℕ
stages p d n zero = []
stages p d n (suc t) = stages p d n t ++ level (stage p d n t) ∷ ticks_left (stage p d n t) ∷ []

-- in the run of worst times at an instant
unfoldable pub worst_at : ℕ → List ℕ
worst_at i = stages plan_a (worst plan_a order_a) (timed plan_a order_a (worst plan_a order_a) i) 5

-- by the journal after these reports
unfoldable pub journal_at : Plan → List ℕ → List ℕ
journal_at p reports = stages p (worst p order_a) (journal p order_a reports) 5

-- whether one is at least as far as each of these
unfoldable pub as_far_as : Stage → List ℕ
as_far_as a = map (λ b. cond (as_far a b) 1 0) (waiting ∷ ready ∷ running 2 ∷ running 1 ∷ finished ∷ [])

unfoldable pub stage_table : List Row
stage_table =
    row (worst_at 0) (2 ∷ 2 ∷ 1 ∷ 0 ∷ 0 ∷ 0 ∷ 0 ∷ 0 ∷ 0 ∷ 0 ∷ [])
    ∷ row (worst_at 3) (3 ∷ 0 ∷ 2 ∷ 2 ∷ 2 ∷ 3 ∷ 0 ∷ 0 ∷ 0 ∷ 0 ∷ [])
    ∷ row (worst_at 6) (3 ∷ 0 ∷ 3 ∷ 0 ∷ 3 ∷ 0 ∷ 2 ∷ 2 ∷ 2 ∷ 2 ∷ [])
    -- over at 8, and at 9
    ∷ row (worst_at 8 ++ worst_at 9) (3 ∷ 0 ∷ 3 ∷ 0 ∷ 3 ∷ 0 ∷ 3 ∷ 0 ∷ 3 ∷ 0 ∷ 3 ∷ 0 ∷ 3 ∷ 0 ∷ 3 ∷ 0 ∷ 3 ∷ 0 ∷ 3 ∷ 0 ∷ [])
    ∷ row (map (λ i. (timed plan_a order_a (worst plan_a order_a) i).instant) (0 ∷ 8 ∷ 9 ∷ [])) (0 ∷ 8 ∷ 9 ∷ [])
    ∷ row (stages plan_a (λ t. 3) (timed plan_a order_a (λ t. 3) 4) 3) (3 ∷ 0 ∷ 2 ∷ 2 ∷ 2 ∷ 2 ∷ [])
    ∷ row (journal_at plan_a (1 ∷ 0 ∷ [])) (3 ∷ 0 ∷ 2 ∷ 2 ∷ 2 ∷ 3 ∷ 0 ∷ 0 ∷ 0 ∷ 0 ∷ [])
    -- with N 1 4 task 1 is ready at 3, though its instant has not come
    ∷ row (journal_at plan_warm (1 ∷ 0 ∷ 0 ∷ [])) (3 ∷ 0 ∷ 1 ∷ 0 ∷ 1 ∷ 0 ∷ 0 ∷ 0 ∷ 0 ∷ 0 ∷ [])
    ∷ row (as_far_as waiting ++ as_far_as ready) (1 ∷ 0 ∷ 0 ∷ 0 ∷ 0 ∷ 1 ∷ 1 ∷ 0 ∷ 0 ∷ 0 ∷ [])
    ∷ row (as_far_as (running 2) ++ as_far_as (running 1)) (1 ∷ 1 ∷ 1 ∷ 0 ∷ 0 ∷ 1 ∷ 1 ∷ 1 ∷ 1 ∷ 0 ∷ [])
    ∷ row (as_far_as finished) (1 ∷ 1 ∷ 1 ∷ 1 ∷ 1 ∷ [])
    ∷ []

-- ---- the journal

-- the instant, the starts and the finishes after these reports
unfoldable pub noted : Plan → Constraint → List ℕ → List ℕ
noted p c reports =
    let n = journal p c reports in
    n.instant ∷ tabulate 5 (λ t. or_zero (n.start t)) ++ tabulate 5 (λ t. or_zero (n.finish t))

-- plan A's order, with entries behind it
unfoldable pub order_and_more : Constraint
order_and_more = constraint_of 5 (0 ∷ 1 ∷ 2 ∷ 3 ∷ 4 ∷ 9 ∷ replicate 58 7) (0 ∷ 0 ∷ 1 ∷ 1 ∷ 0 ∷ 1 ∷ replicate 58 1)

unfoldable pub journal_table : List Row
journal_table =
    -- a run to its end, and 13; the same where there are entries from the length on
    row (ticks (1 ∷ 6 ∷ 24 ∷ 0 ∷ [])) (0 ∷ 0 ∷ 1 ∷ 0 ∷ 0 ∷ 6 ∷ 0 ∷ 0 ∷ 24 ∷ 0 ∷ 0 ∷ 0 ∷ 13 ∷ 0 ∷ 0 ∷ [])
    ∷ row (ticks_on plan_a order_and_more (1 ∷ 6 ∷ 24 ∷ [])) (0 ∷ 0 ∷ 1 ∷ 0 ∷ 0 ∷ 6 ∷ 0 ∷ 0 ∷ 24 ∷ 0 ∷ 0 ∷ 0 ∷ [])
    -- after a 14, a 16 and a 13 the notes stay
    ∷ row (ticks (8 ∷ 0 ∷ 0 ∷ 1 ∷ [])) (0 ∷ 0 ∷ 1 ∷ 14 ∷ 3 ∷ 0 ∷ 0 ∷ 0 ∷ 0 ∷ 16 ∷ 0 ∷ 0 ∷ 0 ∷ 0 ∷ 6 ∷ [])
    -- task 0 with a stranger: nothing starts
    ∷ row (ticks (9 ∷ [])) (0 ∷ 0 ∷ 1 ∷ 14 ∷ 3 ∷ 0 ∷ [])
    ∷ row (noted plan_a order_a (8 ∷ 0 ∷ 0 ∷ 1 ∷ [])) (2 ∷ 0 ∷ 2 ∷ 2 ∷ 0 ∷ 0 ∷ 2 ∷ 0 ∷ 0 ∷ 0 ∷ 0 ∷ [])
    ∷ row (noted plan_a order_a (1 ∷ 6 ∷ 24 ∷ 0 ∷ 0 ∷ [])) (3 ∷ 0 ∷ 1 ∷ 1 ∷ 2 ∷ 2 ∷ 1 ∷ 2 ∷ 2 ∷ 3 ∷ 3 ∷ [])
    -- 14 for one that has finished, one that has not begun and one that is absent; 63 is the highest of all
    ∷ row (ticks (1 ∷ 1 ∷ 32 ∷ 9223372036854775808 ∷ [])) (0 ∷ 0 ∷ 1 ∷ 0 ∷ 0 ∷ 6 ∷ 14 ∷ 0 ∷ 0 ∷ 14 ∷ 5 ∷ 0 ∷ 14 ∷ 63 ∷ 0 ∷ [])
    -- two of four are accepted; the times that are told
    ∷ row (accepted_count (answers plan_a order_a (8 ∷ 0 ∷ 0 ∷ 1 ∷ [])) ∷ []) (2 ∷ [])
    ∷ row (tabulate 5 (taken_time plan_a order_a (journal plan_a order_a (1 ∷ 4 ∷ [])))) (1 ∷ 3 ∷ 1 ∷ 3 ∷ 2 ∷ [])
    ∷ []

-- ---- the simulation

-- what the simulation says to these times
unfoldable pub simulate : List ℕ → List ℕ
simulate times = said (simulation_verdict plan_a order_a times)

-- number, place and response, and the first six starts and finishes
abbrev pub shown : Simulation → List ℕ
shown s = s.number ∷ s.place ∷ s.response ∷ take 6 s.starts ++ take 6 s.finishes

-- every number of a refused one
abbrev pub every_number : Simulation → List ℕ
every_number s = s.number ∷ s.place ∷ s.response ∷ s.starts ++ s.finishes

unfoldable pub simulation_table : List Row
simulation_table =
    -- times from 1 to worst; 18 at the lowest task, 17 before it, and 11 before 17
    row (simulate (1 ∷ 1 ∷ 1 ∷ 1 ∷ 1 ∷ []) ++ simulate (2 ∷ 3 ∷ 4 ∷ 3 ∷ 2 ∷ [])) (0 ∷ 0 ∷ 0 ∷ 0 ∷ [])
    ∷ row (simulate (1 ∷ 1 ∷ 0 ∷ 1 ∷ 0 ∷ []) ++ simulate (2 ∷ 3 ∷ 4 ∷ 4 ∷ 3 ∷ [])) (18 ∷ 2 ∷ 18 ∷ 3 ∷ [])
    ∷ row (simulate (0 ∷ 1 ∷ 1 ∷ 1 ∷ []) ++ simulate (1 ∷ 1 ∷ 1 ∷ 1 ∷ 1 ∷ 1 ∷ []) ++ simulate []) (17 ∷ 4 ∷ 17 ∷ 6 ∷ 17 ∷ 0 ∷ [])
    ∷ row (said (simulation_verdict plan_a (five_entries (2 ∷ 0 ∷ 1 ∷ 3 ∷ 4 ∷ []) (1 ∷ 0 ∷ 0 ∷ 1 ∷ 0 ∷ [])) [])) (11 ∷ 0 ∷ [])
    ∷ row (map (λ x. cond (allowed plan_a order_a 1 x) 1 0) (0 ∷ 1 ∷ 3 ∷ 4 ∷ [])) (0 ∷ 1 ∷ 1 ∷ 0 ∷ [])
    -- every start and finish and the response; refused, zeros
    ∷ row (shown (simulated plan_a order_a (1 ∷ 3 ∷ 2 ∷ 3 ∷ 2 ∷ []))) (0 ∷ 0 ∷ 7 ∷ 0 ∷ 1 ∷ 1 ∷ 4 ∷ 4 ∷ 0 ∷ 1 ∷ 4 ∷ 3 ∷ 7 ∷ 6 ∷ 0 ∷ [])
    ∷ row (shown (worst_case plan_a order_a)) (0 ∷ 0 ∷ 8 ∷ 0 ∷ 2 ∷ 2 ∷ 5 ∷ 6 ∷ 0 ∷ 2 ∷ 5 ∷ 6 ∷ 8 ∷ 8 ∷ 0 ∷ [])
    ∷ row (every_number (simulated plan_a order_a (1 ∷ 1 ∷ 0 ∷ 1 ∷ 1 ∷ []))) (18 ∷ 2 ∷ replicate 129 0)
    ∷ row (every_number (worst_case plan_a (constraint_of 4 order_a.order order_a.chosen))) (9 ∷ 4 ∷ replicate 129 0)
    -- the last task of the order is not the last to finish: one unit of type 1
    ∷ row ((worst_case plan_one order_a).response ∷ []) (9 ∷ [])
    ∷ []

-- ---- not-before instants (document 02, 6): plan A with N 1 4, where task 2 waits behind task 1 in the order; a live run in which nothing
-- runs from instant 1 to 3; the bound beside the most that it can be

unfoldable pub release_table : List Row
release_table =
    row (run plan_warm order_a (worst plan_warm order_a)) (0 ∷ 4 ∷ 4 ∷ 7 ∷ 8 ∷ 10 ∷ [])
    ∷ row (ticks_on plan_warm order_a (1 ∷ 0 ∷ 0 ∷ 0 ∷ [])) (0 ∷ 0 ∷ 1 ∷ 0 ∷ 0 ∷ 0 ∷ 0 ∷ 0 ∷ 0 ∷ 0 ∷ 0 ∷ 0 ∷ 0 ∷ 0 ∷ 6 ∷ [])
    ∷ row (bound plan_warm order_a ∷ greatest_release plan_warm ∷ horizon plan_warm (worst plan_warm order_a) ∷ []) (10 ∷ 4 ∷ 18 ∷ [])
    ∷ []

-- ---- margins (document 02, 2)

-- an integer as two numbers: how far above zero, how far below
abbrev pub above_below : ℤ → List ℕ
above_below (pos n) = n ∷ 0 ∷ []
above_below (negsuc n) = 0 ∷ suc n ∷ []

-- the margins of the first n tasks
unfoldable pub margins_of : Slacks → ℕ → List ℕ
margins_of s zero = []
margins_of s (suc t) = margins_of s t ++ above_below (slack_at s.slacks t)

-- number and place, whether there are deadlines, the least margin, its task, and the margins of so many tasks
unfoldable pub margins : Plan → Constraint → ℕ → List ℕ
margins p c n =
    let s = slacks_of p c in
    s.number ∷ s.place ∷ cond s.any 1 0 ∷ above_below s.least ++ s.task ∷ margins_of s n

-- late by one, just in time and early; equal ones, and tasks without deadline; none; refused
unfoldable pub margin_table : List Row
margin_table =
    row (margins (plan_due (3 ∷ 5 ∷ 5 ∷ 0 ∷ 9 ∷ 0 ∷ [])) order_a 5) (0 ∷ 0 ∷ 1 ∷ 0 ∷ 1 ∷ 2 ∷ 1 ∷ 0 ∷ 0 ∷ 0 ∷ 0 ∷ 1 ∷ 0 ∷ 0 ∷ 1 ∷ 0 ∷ [])
    ∷ row (margins (plan_due (0 ∷ 7 ∷ 0 ∷ 10 ∷ 0 ∷ 0 ∷ [])) order_a 5) (0 ∷ 0 ∷ 1 ∷ 2 ∷ 0 ∷ 1 ∷ 0 ∷ 0 ∷ 2 ∷ 0 ∷ 0 ∷ 0 ∷ 2 ∷ 0 ∷ 0 ∷ 0 ∷ [])
    ∷ row (margins (plan_due none) order_a 5) (replicate 16 0)
    ∷ row (margins (plan_due (3 ∷ 5 ∷ 5 ∷ 0 ∷ 9 ∷ 0 ∷ [])) (constraint_of 4 order_a.order order_a.chosen) 5) (9 ∷ 4 ∷ replicate 14 0)
    -- what follows from the limits: the last instant, the least and the greatest margin (document 02, 4 and 6)
    ∷ row (last_instant ∷ above_below least_slack ++ above_below greatest_slack) (65000000 ∷ 0 ∷ 64999999 ∷ 999999 ∷ 0 ∷ [])
    ∷ []
