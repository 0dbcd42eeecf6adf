-- When a run state is sound: the clauses of 12, one definition each (document 01, Tick). Assumes nothing.
use Rattle.std.specs.Prelude.{Bool, ◌&&◌, ◌||◌, ℕ, ◌+◌, eqb, leb, ltb, get_or}
use Rattle.task_set.specs.Bounded.{all, implies}
use Rattle.task_set.specs.Sets.{width, has}
use Rattle.plan.specs.Rules.{most_types, last_instant, release_of}
use Rattle.plan.specs.Refusals.{verdict}
use Rattle.runs.specs.Running.{is_running, busy, over, worst}
use Rattle.live.specs.declared.State.{State}
use Rattle.live.specs.States.{is_started, notes_of}

-- a task's start and finish instant in the state
abbrev pub start_in : State → ℕ → ℕ
start_in s t = get_or s.starts t 0

abbrev pub finish_in : State → ℕ → ℕ
finish_in s t = get_or s.finishes t 0

-- not "plan and constraint fail the check"
unfoldable pub checked : State → Bool
checked s = eqb (verdict s.plan s.constraint).number 0

-- not "more started than tasks"
unfoldable pub started_fits : State → Bool
started_fits s = leb s.started s.plan.tasks

-- not "a finished task not among the started"
unfoldable pub finished_started : State → ℕ → Bool
finished_started s t = implies (has s.finished t) (is_started s t)

-- not "a start of a started task after the instant"
unfoldable pub start_came : State → ℕ → Bool
start_came s t = implies (is_started s t) (leb (start_in s t) s.instant)

-- not "a start before its instant" (document 02, 6)
unfoldable pub start_released : State → ℕ → Bool
start_released s t = implies (is_started s t) (leb (release_of s.plan.releases t) (start_in s t))

-- not "a finish not after its start or after the instant"
unfoldable pub finish_came : State → ℕ → Bool
finish_came s t = implies (has s.finished t) (ltb (start_in s t) (finish_in s t) && leb (finish_in s t) s.instant)

-- not "a start or finish that should be 0"
unfoldable pub unused_zero : State → ℕ → Bool
unused_zero s t = (is_started s t || eqb (start_in s t) 0) && (has s.finished t || eqb (finish_in s t) 0)

-- not "a running task whose worst time is already reached"
unfoldable pub time_left : State → ℕ → Bool
time_left s t = implies (is_running (notes_of s) t) (ltb s.instant (start_in s t + worst s.plan s.constraint t))

-- not "more running on a type than units"
unfoldable pub units_enough : State → ℕ → Bool
units_enough s k = leb (busy s.constraint (notes_of s) k) (get_or s.plan.units k 0)

-- not "the instant above" the last, "or equal to it with a task unfinished"
unfoldable pub instant_low : State → Bool
instant_low s = leb s.instant last_instant && (over s.plan (notes_of s) || ltb s.instant last_instant)

unfoldable pub task_sound : State → ℕ → Bool
task_sound s t =
    finished_started s t && (start_came s t && (start_released s t && (finish_came s t && (unused_zero s t && time_left s t))))

unfoldable pub is_sound : State → Bool
is_sound s = checked s && (started_fits s && (all width (task_sound s) && (all most_types (units_enough s) && instant_low s)))
