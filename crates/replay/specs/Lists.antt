-- A list of ticks, and the one claim about it (document 01, "The bench book"). Assumes nothing.
use Rattle.std.specs.Prelude.{◌≡◌, true, List, [], ◌∷◌, ℕ, ◌+◌, ◌≤◌, ◌<◌}
use Rattle.plan.specs.declared.Plan.{Plan}
use Rattle.plan.specs.declared.Constraint.{Constraint}
use Rattle.plan.specs.Refusals.{verdict}
use Rattle.dispatch_theory.specs.Sums.{sum}
use Rattle.runs.specs.Running.{worst, Allowed, timed, over, greatest_release, bound}
use Rattle.runs.specs.Progress.{stage, as_far}
use Rattle.runs.specs.Journal.{Answer, opening_answer, journal, answers, accepted_count, taken_time}
use Rattle.live.specs.declared.State.{State}
use Rattle.live.specs.declared.Ticked.{Ticked}
use Rattle.live.specs.States.{notes_of, state_of}
use Rattle.live.specs.Ticks.{started, ticked}

-- number, place and started set of an answer
abbrev pub said : Ticked → Answer
said r = record { number = r.number; place = r.place; started = r.started }

-- "Each further tick gets the state that the one before gave back, accepted or refused"
unfoldable pub state_after : State → List ℕ → State
state_after s [] = s
state_after s (report ∷ rest) = state_after (ticked s report).state rest

unfoldable pub said_after : State → List ℕ → List Answer
said_after s [] = []
said_after s (report ∷ rest) = said (ticked s report) ∷ said_after (ticked s report).state rest

-- what holds of every list of reports on a plan and a constraint that start accepted
pub record Faithful (p : Plan) (c : Constraint) (reports : List ℕ) : Type 0 where
  -- "The answers of start and of each tick are the book's"
  pub opened : said (started p c) ≡ opening_answer p c
  pub answered : said_after (started p c).state reports ≡ answers p c reports
  -- "The state after the list has the plan and constraint that start accepted, and the book's instant, starts and finishes
  -- (0 for none), count of started and set of finished tasks"
  pub state : state_after (started p c).state reports ≡ state_of p c (journal p c reports)
  -- the times taken, which are those reported and the worst where none is, are allowed: "all times from 1 to worst"
  -- (document 02, 1)
  pub times : Allowed p c (taken_time p c (notes_of (state_after (started p c).state reports)))
  -- "every task is then at least as far as in the run of worst times at the instant equal to the number of accepted ticks"
  pub ahead : (t : ℕ) → t < p.tasks
      → as_far (stage p (worst p c) (notes_of (state_after (started p c).state reports)) t)
      (stage p (worst p c) (timed p c (worst p c) (accepted_count (said_after (started p c).state reports))) t) ≡ true
  -- "No list has more accepted ticks than the bound, and one with that many has ended the run"
  pub few : accepted_count (said_after (started p c).state reports) ≤ bound p c
  pub last : accepted_count (said_after (started p c).state reports) ≡ bound p c
      → over p (notes_of (state_after (started p c).state reports)) ≡ true
  -- "The bound is at most the greatest such instant plus the sum of worst times" (document 02, 6)
  pub bounded : bound p c ≤ greatest_release p + sum p.tasks (worst p c)

-- the one claim
abbrev pub Claim : Type 0
Claim = (p : Plan) (c : Constraint) → (verdict p c).number ≡ 0 → (reports : List ℕ) → Faithful p c reports
