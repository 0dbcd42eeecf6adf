-- What inner functions of the live run compute. No promise of a public function cites it. Assumes nothing.
use Rattle.std.specs.Prelude.{◌≡◌, true, false, cond, List, ℕ, ◌^◌, ◌≤◌, ◌<◌, eqb, get_or, length, Result, Ok, Err}
use Rattle.task_set.specs.Bounded.{tabulate}
use Rattle.task_set.specs.Sets.{width, has, without}
use Rattle.plan.specs.declared.Plan.{Plan}
use Rattle.plan.specs.declared.Constraint.{Constraint}
use Rattle.plan.specs.declared.Verdict.{Verdict}
use Rattle.plan.specs.Rules.{most_types, most_tasks}
use Rattle.plan.specs.Refusals.{verdict}
use Rattle.runs.specs.Running.{entries, dispatch}
use Rattle.live_marks.specs.declared.Marks.{Marks}
use Rattle.live_marks.specs.Steps.{first_tasks, type_users, marks_of}
use Rattle.live.specs.declared.State.{State}
use Rattle.live.specs.declared.Ticked.{Ticked}
use Rattle.live.specs.States.{is_started, notes_of}
use Rattle.live.specs.Ticks.{moved, stayed, tick_verdict}

-- a state that is handed over in parts
abbrev pub state_from : Plan → Constraint → ℕ → ℕ → ℕ → List ℕ → List ℕ → State
state_from p c i n f b e = record { plan = p; constraint = c; instant = i; started = n; finished = f; starts = b; finishes = e }

-- each type's users in a state
abbrev pub users_of : State → List ℕ
users_of s = tabulate most_types (type_users s.constraint.order s.constraint.chosen s.constraint.len)

-- the running tasks of a state
abbrev pub running_of : State → ℕ
running_of s = without (first_tasks s.constraint.order s.started) s.finished

-- a state after the walk of its instant, and the tasks that the walk started
abbrev pub walked_on : State → Ticked
walked_on s =
    moved s.plan s.constraint (notes_of s) (dispatch s.plan s.constraint (entries s.constraint) (notes_of s))

-- what the pass over the positions finds of a state
abbrev pub marks_in : State → Marks
marks_in s =
    marks_of s.plan.wcet s.starts s.constraint.order s.constraint.chosen s.constraint.len s.started
    s.instant

-- what a tick is judged to be: a refusal, or the marks that the walk goes by
abbrev pub judged : State → ℕ → Result Marks Verdict
judged s report = cond (eqb (tick_verdict s report).number 0) (Ok (marks_in s)) (Err (tick_verdict s report))

-- the answer with the state s: the tasks just started, or a refusal
abbrev pub answered : Result ℕ Verdict → State → Ticked
answered (Ok started) s = record { number = 0; place = 0; started = started; state = s }
answered (Err v) s = stayed v s

-- what the check and the tests of soundness leave for the walk to rely on
pub record Tidy (s : State) : Type 0 where
  pub checked : (verdict s.plan s.constraint).number ≡ 0
  pub few : s.started ≤ s.plan.tasks
  pub finished_started_lem : (t : ℕ) → has s.finished t ≡ true → is_started s t ≡ true
  pub starts_zero : (t : ℕ) → is_started s t ≡ false → get_or s.starts t 0 ≡ 0
  pub finishes_zero : (t : ℕ) → has s.finished t ≡ false → get_or s.finishes t 0 ≡ 0
  pub finished_small : s.finished < 2 ^ width
  pub starts_long : length s.starts ≡ most_tasks
  pub finishes_long : length s.finishes ≡ most_tasks

-- a tidy state with its running tasks and each type's users
pub record Walkable (s : State) (users : List ℕ) (running : ℕ) : Type 0 where
  pub tidy : Tidy s
  pub users_are : users ≡ users_of s
  pub running_are : running ≡ running_of s
