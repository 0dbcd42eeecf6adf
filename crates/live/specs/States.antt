-- Run states, and the notes that they stand for (document 01, "Running rules"). Assumes nothing.
use Rattle.std.specs.Prelude.{Bool, cond, ℕ, eqb, get_or, replicate}
use Rattle.std.proofs.Math.Option.{none, some}
use Rattle.task_set.specs.Bounded.{any, count, tabulate}
use Rattle.task_set.specs.Sets.{width, has, set_of}
use Rattle.plan.specs.declared.Plan.{Plan}
use Rattle.plan.specs.declared.Constraint.{Constraint}
use Rattle.plan.specs.Rules.{most_tasks}
use Rattle.plan.specs.Refusals.{entry_at, no_plan, no_constraint}
use Rattle.runs.specs.Running.{Notes, or_zero, has_started, has_finished}
use Rattle.live.specs.declared.State.{State}

-- "the started, which are the first of the order"
unfoldable pub is_started : State → ℕ → Bool
is_started s t = any s.started (λ j. eqb (entry_at s.constraint.order j) t)

-- the notes that a state stands for
abbrev pub notes_of : State → Notes
notes_of s =
    record {
      instant = s.instant;
      start = λ t. cond (is_started s t) (some (get_or s.starts t 0)) none;
      finish = λ t. cond (has s.finished t) (some (get_or s.finishes t 0)) none;
    }

-- the state that stands for notes: "the instant, the count of started tasks, the set of finished tasks,
-- and each task's start and finish instant (0 until it has one)"
unfoldable pub state_of : Plan → Constraint → Notes → State
state_of p c n =
    record {
      plan = p;
      constraint = c;
      instant = n.instant;
      started = count width (has_started n);
      finished = set_of width (has_finished n);
      starts = tabulate most_tasks (λ t. or_zero (n.start t));
      finishes = tabulate most_tasks (λ t. or_zero (n.finish t));
    }

-- "an all-zero state"
abbrev pub no_state : State
no_state =
    record {
      plan = no_plan;
      constraint = no_constraint;
      instant = 0;
      started = 0;
      finished = 0;
      starts = replicate most_tasks 0;
      finishes = replicate most_tasks 0;
    }
