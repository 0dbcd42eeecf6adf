-- The kinds of lines, the faults 5 to 7 of a line, and its first fault (document 01, "The plan text", and "When an operation says no"). Assumes nothing.
use Rattle.std.specs.Prelude.{Bool, false, cond, ◌&&◌, not, List, Option, None, Some, ℕ, eqb, leb, ltb}
use Rattle.task_set.specs.Sets.{has}
use Rattle.plan.specs.Rules.{time_of, predecessors_of, deadline_of}
use Rattle.text_form.specs.declared.Line.{Line}
use Rattle.text_form.specs.declared.Line.TheVariants.{Units, Times, Arrow, Deadline, Release, Choice}
use Rattle.text_range.specs.Ranges.{out_of_range, at_odds}
use Rattle.text_fault.specs.declared.Kind.{Kind}
use Rattle.text_fault.specs.declared.Kind.TheVariants.{U, T, A, D, N, C}
use Rattle.text_fault.specs.declared.Seen.{Seen}
use Rattle.text_fault.specs.declared.Fault.{Fault}
use Rattle.text_fault.specs.declared.Fault.TheVariants.{OutOfRange, AtOdds, TooLate, Unknown, Repeated}

-- the place of a kind among the kinds: "All U lines precede T, T precede A, A precede C"; D "after the A lines and before the
-- C lines" (document 02, 2), and N "after D and before C" (document 02, 6)
abbrev pub kind_rank : Kind → ℕ
kind_rank U = 0
kind_rank T = 1
kind_rank A = 2
kind_rank D = 3
kind_rank N = 4
kind_rank C = 5

abbrev pub kind_of : Line → Kind
kind_of (Units k n) = U
kind_of (Times t k b w) = T
kind_of (Arrow from to) = A
kind_of (Deadline t d) = D
kind_of (Release t i) = N
kind_of (Choice t k) = C

-- ---- the faults

-- 6: "a U type that is not the next, a T type without U line, an A or C task without T line", a D task too (document 02, 2), and
-- an N task ("N lines as D lines": document 02, 6)
abbrev pub unknown : ℕ → ℕ → Line → Bool
unknown types timed (Units k n) = not (eqb k types)
unknown types timed (Times t k b w) = leb types k
unknown types timed (Arrow from to) = not (has timed from && has timed to)
unknown types timed (Deadline t d) = not (has timed t)
unknown types timed (Release t i) = not (has timed t)
unknown types timed (Choice t k) = not (has timed t)

-- 7: "a T pair of task and type, an arrow or a C task given before", a deadline, "at most one a task" (document 02, 2), and a
-- not-before instant (document 02, 6), which may be 0, so that the tasks that have one are a set of their own
abbrev pub repeated : List ℕ → List ℕ → List ℕ → Seen → Line → Bool
repeated wcet predecessors deadlines seen (Units k n) = false
repeated wcet predecessors deadlines seen (Times t k b w) = not (eqb (time_of wcet t k) 0)
repeated wcet predecessors deadlines seen (Arrow from to) = has (predecessors_of predecessors to) from
repeated wcet predecessors deadlines seen (Deadline t d) = not (eqb (deadline_of deadlines t) 0)
repeated wcet predecessors deadlines seen (Release t i) = has seen.released t
repeated wcet predecessors deadlines seen (Choice t k) = has seen.listed t

-- the number of the first fault, and 0 where there is none; 5 is "a kind after a later kind"
unfoldable pub first_fault : ℕ → List ℕ → List ℕ → List ℕ → Seen → Line → ℕ
first_fault types wcet predecessors deadlines seen line =
    cond (out_of_range line) 3
    (cond (at_odds line) 4
    (cond (ltb (kind_rank (kind_of line)) (kind_rank seen.kind)) 5
    (cond (unknown types seen.timed line) 6
    (cond (repeated wcet predecessors deadlines seen line) 7
    0))))

abbrev pub fault_number : Fault → ℕ
fault_number OutOfRange = 3
fault_number AtOdds = 4
fault_number TooLate = 5
fault_number Unknown = 6
fault_number Repeated = 7

abbrev pub number_of : Option Fault → ℕ
number_of None = 0
number_of (Some fault) = fault_number fault
