-- What a line says by itself: its ranges and the faults 3 and 4 (document 01, "The plan text", and "When an operation says no").
-- Assumes nothing.
use Rattle.std.specs.Prelude.{Bool, false, ◌&&◌, not, ℕ, eqb, leb, ltb}
use Rattle.plan.specs.Rules.{most_types, most_units, most_tasks, longest_time, latest_deadline, latest_release, between}
use Rattle.text_form.specs.declared.Line.{Line}
use Rattle.text_form.specs.declared.Line.TheVariants.{Units, Times, Arrow, Deadline, Release, Choice}

-- type 0 to 7, count 1 to 8, task 0 to 63, times from 1 to the longest
abbrev pub is_type : ℕ → Bool
is_type k = ltb k most_types

abbrev pub is_task : ℕ → Bool
is_task t = ltb t most_tasks

abbrev pub is_time : ℕ → Bool
is_time x = between 1 x longest_time

-- the "instant from 1" (document 02, 2) to the latest deadline
abbrev pub is_deadline : ℕ → Bool
is_deadline x = between 1 x latest_deadline

-- the "instant from 0" (document 02, 6) to the latest not-before instant
abbrev pub is_release : ℕ → Bool
is_release x = leb x latest_release

-- 3: "a number out of range"
abbrev pub out_of_range : Line → Bool
out_of_range (Units k n) = not (is_type k && between 1 n most_units)
out_of_range (Times t k b w) = not (is_task t && (is_type k && (is_time b && is_time w)))
out_of_range (Arrow from to) = not (is_task from && is_task to)
out_of_range (Deadline t d) = not (is_task t && is_deadline d)
out_of_range (Release t i) = not (is_task t && is_release i)
out_of_range (Choice t k) = not (is_task t && is_type k)

-- 4: "worst below best, or an arrow from a task to itself"
abbrev pub at_odds : Line → Bool
at_odds (Units k n) = false
at_odds (Times t k b w) = ltb w b
at_odds (Arrow from to) = eqb from to
at_odds (Deadline t d) = false
at_odds (Release t i) = false
at_odds (Choice t k) = false
