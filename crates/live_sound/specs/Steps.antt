-- Soundness, by sets and arrays. Assumes nothing.
use Rattle.std.specs.Prelude.{Bool, ◌&&◌, ◌||◌, List, ℕ, eqb, leb, ltb, get_or}
use Rattle.std.specs.Int.Bits.{bit_and}
use Rattle.task_set.specs.Bounded.{all, implies}
use Rattle.task_set.specs.Sets.{width, has, size, without}
use Rattle.plan.specs.Rules.{most_types, last_instant, release_of}
use Rattle.live_marks.specs.declared.Marks.{Marks}

-- the start and the finish of a task that has started or not, finished or not, at an instant, with its not-before instant: the
-- clauses of 12 about them
abbrev pub times_fit : Bool → Bool → ℕ → ℕ → ℕ → ℕ → Bool
times_fit begun done release start finish instant =
    implies done begun
    && (implies begun (leb start instant)
    && (implies begun (leb release start)
    && (implies done (ltb start finish && leb finish instant)
    && ((begun || eqb start 0) && (done || eqb finish 0)))))

-- the same of task t in the arrays and sets of a state
unfoldable pub all_times_fit : List ℕ → List ℕ → List ℕ → ℕ → ℕ → ℕ → ℕ → Bool
all_times_fit releases starts finishes started finished instant t =
    times_fit (has started t) (has finished t) (release_of releases t) (get_or starts t 0) (get_or finishes t 0) instant

-- no more of the running tasks use type k than it has units
unfoldable pub enough_for : List ℕ → List ℕ → ℕ → ℕ → Bool
enough_for units users running k = leb (size (bit_and (get_or users k 0) running)) (get_or units k 0)

-- the clauses of 12 after the first two, by sets
unfoldable pub sound_by : List ℕ → List ℕ → List ℕ → List ℕ → Marks → Bool → ℕ → ℕ → Bool
sound_by units releases starts finishes m over finished instant =
    let running = without m.started finished in
    (all width (all_times_fit releases starts finishes m.started finished instant) && eqb (bit_and m.spent running) 0)
    && (all most_types (enough_for units m.users running) && (leb instant last_instant && (over || ltb instant last_instant)))
