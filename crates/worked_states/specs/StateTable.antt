-- Start, ticks, the clauses of 12 and replay on plan A (document 01, "When an operation says no", Start, Tick). Assumes nothing.
use Rattle.std.specs.Prelude.{List, [], ◌∷◌, ◌++◌, map, ℕ, replicate, take}
use Rattle.plan.specs.declared.Plan.{Plan}
use Rattle.plan.specs.declared.Constraint.{Constraint}
use Rattle.plan.specs.Refusals.{constraint_of}
use Rattle.runs.specs.Journal.{Answer}
use Rattle.live.specs.declared.State.{State}
use Rattle.live.specs.declared.Ticked.{Ticked}
use Rattle.live.specs.Ticks.{started, tick_verdict, ticked}
use Rattle.replay.specs.declared.Replayed.{Replayed}
use Rattle.replay.specs.Lists.{state_after, said_after}
use Rattle.replay.specs.Replays.{replayed, written, room_in}
use Rattle.worked_examples.specs.PlanA.{plan_one, plan_long, plan_a, plan_warm, order_a}
use Rattle.worked_examples.specs.Rows.{Row, row}
use Rattle.worked_examples.specs.Table.{listed}

-- the instant, the count of started, the set of finished tasks, and the first six starts and finishes
abbrev pub notes : State → List ℕ
notes s = s.instant ∷ s.started ∷ s.finished ∷ take 6 s.starts ++ take 6 s.finishes

-- what a plan and a constraint keep
abbrev pub kept : Plan → Constraint → List ℕ
kept p c =
    p.types ∷ p.units ++ p.tasks ∷ p.bcet ++ p.wcet ++ p.predecessors ++ p.deadlines ++ p.releases ++ c.len ∷ c.order
    ++ c.chosen

-- number, place, started set and every number of the state
abbrev pub every_number : Ticked → List ℕ
every_number r =
    let s = r.state in
    r.number ∷ r.place ∷ r.started ∷ kept s.plan s.constraint ++ s.instant ∷ s.started ∷ s.finished ∷ s.starts ++ s.finishes

-- plan A's order, cut short: 9 at 4
abbrev pub short_order : Constraint
short_order = constraint_of 4 order_a.order order_a.chosen

unfoldable pub opened : State
opened = (started plan_a order_a).state

-- ---- a state by hand, with six starts and finishes

abbrev pub state_on : Plan → Constraint → ℕ → ℕ → ℕ → List ℕ → List ℕ → State
state_on p c instant begun done starts finishes =
    record {
      plan = p;
      constraint = c;
      instant = instant;
      started = begun;
      finished = done;
      starts = starts ++ replicate 58 0;
      finishes = finishes ++ replicate 58 0;
    }

abbrev pub state_a : ℕ → ℕ → ℕ → List ℕ → List ℕ → State
state_a = state_on plan_a order_a

-- number and place of a tick with this report
unfoldable pub judged : State → ℕ → List ℕ
judged s report = let v = tick_verdict s report in v.number ∷ v.place ∷ []

-- at instant 2 task 0 has finished, and tasks 1 and 2 have run since 1: with these starts and finishes, and an empty report
unfoldable pub in_run : List ℕ → List ℕ → List ℕ
in_run starts finishes = judged (state_a 2 3 1 starts finishes) 0

-- all tasks have finished, at this instant, with so many started
unfoldable pub at_end : ℕ → ℕ → List ℕ
at_end instant begun = judged (state_a instant begun 31 (0 ∷ 2 ∷ 2 ∷ 5 ∷ 6 ∷ 0 ∷ []) (2 ∷ 5 ∷ 6 ∷ 8 ∷ 8 ∷ 0 ∷ [])) 0

-- task 4 has run since the instant before the last; it is reported at this one
unfoldable pub near_end : ℕ → List ℕ
near_end instant = judged (state_a instant 5 15 (0 ∷ 2 ∷ 2 ∷ 5 ∷ 64999998 ∷ 0 ∷ []) (2 ∷ 5 ∷ 6 ∷ 8 ∷ 0 ∷ 0 ∷ [])) 16

-- tasks 2 and 3 run on type 1
abbrev pub both_on : Plan → State
both_on p = state_on p order_a 2 4 3 (0 ∷ 1 ∷ 1 ∷ 2 ∷ 0 ∷ 0 ∷ []) (1 ∷ 2 ∷ 0 ∷ 0 ∷ 0 ∷ 0 ∷ [])

-- with N 1 4 task 1 has run from this start on
abbrev pub warm : ℕ → State
warm start = state_on plan_warm order_a 4 3 1 (0 ∷ start ∷ 4 ∷ 0 ∷ 0 ∷ 0 ∷ []) (1 ∷ 0 ∷ 0 ∷ 0 ∷ 0 ∷ 0 ∷ [])

-- ---- the rows

unfoldable pub start_table : List Row
start_table =
    row (take 3 (every_number (started plan_a order_a)) ++ notes opened) (0 ∷ 0 ∷ 1 ∷ 0 ∷ 1 ∷ 0 ∷ replicate 12 0)
    ∷ row (kept opened.plan opened.constraint) (kept plan_a order_a)
    -- refused, the state is all zero and the set empty
    ∷ row (every_number (started plan_a short_order)) (9 ∷ 4 ∷ replicate 1487 0)
    -- each tick gets the state that the one before gave back, accepted or refused
    ∷ row (notes (state_after opened (1 ∷ 0 ∷ []))) (2 ∷ 3 ∷ 1 ∷ (0 ∷ 1 ∷ 1 ∷ 0 ∷ 0 ∷ 0 ∷ []) ++ (1 ∷ 0 ∷ 0 ∷ 0 ∷ 0 ∷ 0 ∷ []))
    ∷ row (notes (state_after opened (8 ∷ 0 ∷ 0 ∷ 1 ∷ []))) (2 ∷ 3 ∷ 1 ∷ (0 ∷ 2 ∷ 2 ∷ 0 ∷ 0 ∷ 0 ∷ []) ++ (2 ∷ 0 ∷ 0 ∷ 0 ∷ 0 ∷ 0 ∷ []))
    ∷ row (listed (said_after opened (8 ∷ 0 ∷ 0 ∷ 1 ∷ []))) (14 ∷ 3 ∷ 0 ∷ 0 ∷ 0 ∷ 0 ∷ 16 ∷ 0 ∷ 0 ∷ 0 ∷ 0 ∷ 6 ∷ [])
    -- a refused tick gives back what it was handed, an unsound state, too, with the empty set
    ∷ row (every_number (ticked (state_a 2 3 1 (9 ∷ 9 ∷ 9 ∷ 9 ∷ 9 ∷ 9 ∷ []) (8 ∷ 8 ∷ 8 ∷ 8 ∷ 8 ∷ 8 ∷ [])) 7))
    (12 ∷ 0 ∷ 0 ∷ kept plan_a order_a ++ 2 ∷ 3 ∷ 1 ∷ (replicate 6 9 ++ replicate 58 0) ++ (replicate 6 8 ++ replicate 58 0))
    ∷ []

-- the clauses of 12, one after the other; 13 and 16 come after it
unfoldable pub sound_table : List Row
sound_table =
    -- sound; plan, constraint fail the check
    row (in_run (0 ∷ 1 ∷ 1 ∷ 0 ∷ 0 ∷ 0 ∷ []) (1 ∷ 0 ∷ 0 ∷ 0 ∷ 0 ∷ 0 ∷ [])) (0 ∷ 0 ∷ [])
    ∷ row (judged (state_on (plan_long 1000001) order_a 0 1 0 (replicate 6 0) (replicate 6 0)) 0 ++ judged (state_on plan_a short_order 0 1 0 (replicate 6 0) (replicate 6 0)) 0)
    (12 ∷ 0 ∷ 12 ∷ 0 ∷ [])
    -- more started than tasks
    ∷ row (at_end 8 5 ++ at_end 8 6) (13 ∷ 0 ∷ 12 ∷ 0 ∷ [])
    -- a finished task that has not started
    ∷ row (judged (state_a 2 3 9 (0 ∷ 1 ∷ 1 ∷ 0 ∷ 0 ∷ 0 ∷ []) (1 ∷ 0 ∷ 0 ∷ 1 ∷ 0 ∷ 0 ∷ [])) 0) (12 ∷ 0 ∷ [])
    -- a start after the instant
    ∷ row (in_run (0 ∷ 1 ∷ 2 ∷ 0 ∷ 0 ∷ 0 ∷ []) (1 ∷ 0 ∷ 0 ∷ 0 ∷ 0 ∷ 0 ∷ []) ++ in_run (0 ∷ 1 ∷ 3 ∷ 0 ∷ 0 ∷ 0 ∷ []) (1 ∷ 0 ∷ 0 ∷ 0 ∷ 0 ∷ 0 ∷ [])) (0 ∷ 0 ∷ 12 ∷ 0 ∷ [])
    -- a finish not after its start, at the instant, after it
    ∷ row (in_run (0 ∷ 1 ∷ 1 ∷ 0 ∷ 0 ∷ 0 ∷ []) (0 ∷ 0 ∷ 0 ∷ 0 ∷ 0 ∷ 0 ∷ [])) (12 ∷ 0 ∷ [])
    ∷ row (in_run (0 ∷ 1 ∷ 1 ∷ 0 ∷ 0 ∷ 0 ∷ []) (2 ∷ 0 ∷ 0 ∷ 0 ∷ 0 ∷ 0 ∷ []) ++ in_run (0 ∷ 1 ∷ 1 ∷ 0 ∷ 0 ∷ 0 ∷ []) (3 ∷ 0 ∷ 0 ∷ 0 ∷ 0 ∷ 0 ∷ [])) (0 ∷ 0 ∷ 12 ∷ 0 ∷ [])
    -- a start or a finish that should be 0, of a task and of an absent one
    ∷ row (in_run (0 ∷ 1 ∷ 1 ∷ 1 ∷ 0 ∷ 0 ∷ []) (1 ∷ 0 ∷ 0 ∷ 0 ∷ 0 ∷ 0 ∷ []) ++ in_run (0 ∷ 1 ∷ 1 ∷ 0 ∷ 0 ∷ 1 ∷ []) (1 ∷ 0 ∷ 0 ∷ 0 ∷ 0 ∷ 0 ∷ [])) (12 ∷ 0 ∷ 12 ∷ 0 ∷ [])
    ∷ row (in_run (0 ∷ 1 ∷ 1 ∷ 0 ∷ 0 ∷ 0 ∷ []) (1 ∷ 2 ∷ 0 ∷ 0 ∷ 0 ∷ 0 ∷ []) ++ in_run (0 ∷ 1 ∷ 1 ∷ 0 ∷ 0 ∷ 0 ∷ []) (1 ∷ 0 ∷ 0 ∷ 0 ∷ 0 ∷ 1 ∷ [])) (12 ∷ 0 ∷ 12 ∷ 0 ∷ [])
    -- a running task whose worst time is reached; one tick before that it is 16
    ∷ row (judged (state_a 3 3 1 (0 ∷ 1 ∷ 1 ∷ 0 ∷ 0 ∷ 0 ∷ []) (1 ∷ 0 ∷ 0 ∷ 0 ∷ 0 ∷ 0 ∷ [])) 0 ++ judged (state_a 4 3 1 (0 ∷ 1 ∷ 1 ∷ 0 ∷ 0 ∷ 0 ∷ []) (1 ∷ 0 ∷ 0 ∷ 0 ∷ 0 ∷ 0 ∷ [])) 0)
    (16 ∷ 1 ∷ 12 ∷ 0 ∷ [])
    -- more running on a type than units
    ∷ row (judged (both_on plan_a) 0 ++ judged (both_on plan_one) 0) (0 ∷ 0 ∷ 12 ∷ 0 ∷ [])
    -- the instant above the last, or equal to it with a task unfinished
    ∷ row (at_end 65000000 5 ++ at_end 65000001 5) (13 ∷ 0 ∷ 12 ∷ 0 ∷ [])
    ∷ row (near_end 64999999 ++ judged (state_a 65000000 5 15 (0 ∷ 2 ∷ 2 ∷ 5 ∷ 64999999 ∷ 0 ∷ []) (2 ∷ 5 ∷ 6 ∷ 8 ∷ 0 ∷ 0 ∷ [])) 16) (0 ∷ 0 ∷ 12 ∷ 0 ∷ [])
    -- a start before its not-before instant
    ∷ row (judged (warm 4) 0 ++ judged (warm 3) 0) (0 ∷ 0 ∷ 12 ∷ 0 ∷ [])
    -- 13 before 14
    ∷ row (judged (state_a 8 5 31 (0 ∷ 2 ∷ 2 ∷ 5 ∷ 6 ∷ 0 ∷ []) (2 ∷ 5 ∷ 6 ∷ 8 ∷ 8 ∷ 0 ∷ [])) 1) (13 ∷ 0 ∷ [])
    ∷ []

-- ---- replay

abbrev pub shown : Replayed → List ℕ
shown r = r.number ∷ r.place ∷ r.started ∷ notes r.state

abbrev pub every_part : Replayed → List ℕ
every_part r =
    let s = r.state in
    r.number ∷ r.place ∷ r.started ∷ kept s.plan s.constraint ++ s.instant ∷ s.started ∷ s.finished ∷ s.starts ++ s.finishes

-- task 0 is reported, then task 3, which is a stranger
abbrev pub reports : List ℕ
reports = 1 ∷ 8 ∷ []

-- a buffer afterwards, where there is so much room
abbrev pub in_buffer : (Answer → ℕ) → ℕ → List ℕ
in_buffer part room = written part plan_a order_a reports room (7 ∷ 7 ∷ 7 ∷ [])

unfoldable pub replay_table : List Row
replay_table =
    row (shown (replayed plan_a order_a reports 2)) (0 ∷ 0 ∷ 1 ∷ 1 ∷ 3 ∷ 1 ∷ (0 ∷ 1 ∷ 1 ∷ 0 ∷ 0 ∷ 0 ∷ []) ++ (1 ∷ 0 ∷ 0 ∷ 0 ∷ 0 ∷ 0 ∷ []))
    -- number, place and set of each tick; entries behind them are unchanged
    ∷ row (in_buffer (λ a. a.number) 2 ++ in_buffer (λ a. a.place) 2 ++ in_buffer (λ a. a.started) 2) (0 ∷ 14 ∷ 7 ∷ 0 ∷ 3 ∷ 7 ∷ 6 ∷ 0 ∷ 7 ∷ [])
    -- 19 at one entry less, place the entries needed: zeros, and no entry is altered
    ∷ row (every_part (replayed plan_a order_a reports 1)) (19 ∷ 2 ∷ replicate 1487 0)
    ∷ row (in_buffer (λ a. a.number) 1) (7 ∷ 7 ∷ 7 ∷ [])
    -- 9 before 19; the shortest of three buffers decides; the list may be empty
    ∷ row (take 3 (every_part (replayed plan_a short_order reports 0))) (9 ∷ 4 ∷ 0 ∷ [])
    ∷ row (map (λ k. room_in (replicate 3 0) (replicate k 0) (replicate 2 0)) (1 ∷ 2 ∷ 3 ∷ []) ++ room_in (0 ∷ []) (0 ∷ 0 ∷ []) (0 ∷ 0 ∷ []) ∷ []) (1 ∷ 2 ∷ 2 ∷ 1 ∷ [])
    ∷ row (shown (replayed plan_a order_a [] 0)) (0 ∷ 0 ∷ 1 ∷ 0 ∷ 1 ∷ 0 ∷ replicate 12 0)
    ∷ []
