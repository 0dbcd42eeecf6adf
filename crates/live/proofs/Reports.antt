-- The faulty sets of a report on a state are those of the journal on its notes. Assumes nothing.
use mathlib.Core.Path.{◌≡◌, refl, ap, ◌∙◌}
use mathlib.Core.Bool.{Bool, ◌&&◌, not, and-false, and-true, and_comm}
use Prim.Native.Nat.{ℕ, ◌^◌, ◌≤◌, ◌<◌}
use borrow.Author.Tests.{eqb-true, eqb-false, lt-ltb}
use lib.Bits.{bit_and}
use lib.Dec.{eqb, ltb}
use Rattle.task_set.specs.Bounded.{first}
use Rattle.task_set.specs.Sets.{width, has, without, lowest}
use Rattle.task_set.proofs.Truth.{by_test}
use Rattle.task_set.proofs.Search.{first_cong}
use Rattle.task_set.proofs.Members.{has_and, has_without, lowest_low}
use Rattle.plan.specs.declared.Verdict.{Verdict}
use Rattle.plan.specs.Refusals.{unless_at}
use Rattle.plan.proofs.Accepted.{Accepted}
use Rattle.runs.specs.Running.{is_running}
use Rattle.runs.specs.Journal.{idle, overdue}
use Rattle.live_report.specs.Steps.{unless_empty}
use Rattle.live.specs.declared.State.{State}
use Rattle.live.specs.States.{notes_of}
use Rattle.live.specs.Steps.{running_of, marks_in}
use Rattle.live.proofs.StateBack.{running_notes}
use Rattle.live.proofs.Choices.{due_own}

-- ---- a faulty set decides a refusal and its place

some_low : (x : ℕ) → x < 2 ^ width → ltb (lowest x) width ≡ not (eqb x 0)
unfolding lowest first has
some_low x small =
    by_test (eqb x 0) (λ e. rw (eqb-true x 0 e) refl) (λ e. rw e (lt-ltb (lowest x) width (lowest_low x small (eqb-false x 0 e))))

pub unless_set : (number : ℕ) (fault : ℕ → Bool) (rest : Verdict) {x : ℕ} → x < 2 ^ width
    → ((t : ℕ) → t < width → has x t ≡ fault t)
    → unless_at number width fault rest ≡ unless_empty number x rest
unfolding unless_at lowest
unless_set number fault rest {x} small h = rw (← first_cong width (has x) fault h, some_low x small) refl

-- ---- the sets of 14 and 16

pub idle_set : (s : State) (report t : ℕ) → t < width → has (without report (running_of s)) t ≡ idle (notes_of s) report t
unfolding idle
idle_set s report t l = has_without report (running_of s) t ∙ ap (λ (b : Bool). has report t && not b) (running_notes s t l)

pub overdue_set : (s : State) → Accepted s.plan s.constraint → s.started ≤ s.plan.tasks
    → (report t : ℕ) → t < width
    → has (without (bit_and (marks_in s).due (running_of s)) report) t ≡ overdue s.plan s.constraint (notes_of s) report t
unfolding overdue
overdue_set s a few report t l =
    has_without (bit_and (marks_in s).due (running_of s)) report t
    ∙ rw (has_and t (marks_in s).due (running_of s), running_notes s t l)
    (by_test (is_running (notes_of s) t) (λ r. rw (r, due_own s a few t r, and-true) (and_comm _ (not (has report t))))
    (λ q. rw (q, and-false)))
