-- The theorems about runs, each stated once: of a plan and a constraint that the check takes, and last, about one report, of any plan and
-- any notes. Open this file first. Assumes nothing.
use mathlib.Core.Path.{◌≡◌, refl, ◌∙◌}
use mathlib.Core.Bool.{Bool, true, false, cond, ◌&&◌, not}
use mathlib.Core.List.{List}
use mathlib.Core.Option.{none, some}
use Prim.Native.Nat.{ℕ, zero, suc, ◌+◌, ◌-◌, ◌≤◌, ◌<◌}
use native.Mathlib.Omega.{arith}
use borrow.Author.Tests.{not-true}
use lib.Dec.{eqb, leb}
use lib.ListN.{get_or}
use Rattle.task_set.specs.Bounded.{any, first}
use Rattle.task_set.specs.Sets.{width, has}
use Rattle.task_set.proofs.Truth.{by_test, and_left, and_right}
use Rattle.task_set.proofs.Search.{first_any}
use Rattle.plan.specs.declared.Plan.{Plan}
use Rattle.plan.specs.declared.Constraint.{Constraint}
use Rattle.plan.specs.declared.Verdict.{Verdict}
use Rattle.plan.specs.Rules.{release_of}
use Rattle.plan.specs.Refusals.{refused, no_refusal, unless_at, verdict}
use Rattle.plan.proofs.Accepted.{Accepted, accepted}
use Rattle.dispatch_theory.specs.Sums.{sum}
use Rattle.dispatch_theory.proofs.Greedy.{Greedy}
use Rattle.dispatch_theory.proofs.Rules.{rule_gate}
use Rattle.runs.specs.Running.{Notes, entries, worst, Allowed, has_started, is_running, busy, dispatch, advance, step, blank, opening, time_up, timed, over, greatest_release, horizon, response, bound}
use Rattle.runs.specs.Progress.{stage, as_far}
use Rattle.runs.specs.Journal.{idle, overdue, refusal, hear, journal, answers, accepted_count, taken_time}
use Rattle.runs.proofs.Positions.{task_at, allowed_lasts, worst_lasts}
use Rattle.runs.proofs.Orders.{Lasting, order_of, durations, starts_of, greedy}
use Rattle.runs.proofs.Closed.{start_finish, start_not_before, timed_start}
use Rattle.runs.proofs.Compare.{as_far_lem}
use Rattle.runs.proofs.Response as response-laws
use Rattle.runs.proofs.Dispatch.{dispatch_settled, timed_over_stays}
use Rattle.runs.proofs.Sound.{taken_allowed}
use Rattle.runs.proofs.Listed as listed
use Rattle.runs.proofs.Reported.{journal_instant}

module _ (p : Plan) (c : Constraint) (ok : (verdict p c).number ≡ 0) where
  a : Accepted p c
  a = accepted p c ok

  -- ---- one run

  -- "The walk looks at the next unstarted task .. At the first task that may not start, the walk stops": the task at each
  -- position starts at its greedy start, the first instant, not before the start at the position before it, at which its
  -- gate is open
  pub starts_greedy : (d : ℕ → ℕ) → Allowed p c d → (i k : ℕ) → k < p.tasks
      → (timed p c d i).start (task_at c k) ≡ cond (leb (starts_of p c d k) i) (some (starts_of p c d k)) none
  starts_greedy d w = timed_start a d (allowed_lasts a d w)

  pub greedy_starts : (d : ℕ → ℕ) → Greedy (rule_gate (order_of p c)) p.tasks (durations c d) (starts_of p c d)
  greedy_starts = greedy a

  -- a task with start s and time d finishes at instant s + d
  pub finishes : (d : ℕ → ℕ) → Allowed p c d → (i t s : ℕ) → t < p.tasks → (timed p c d i).start t ≡ some s
      → (timed p c d i).finish t ≡ cond (leb (s + d t) i) (some (s + d t)) none
  finishes d w i t s l e = start_finish a d (allowed_lasts a d w) i t s l e

  -- "the earliest instant at which the task may start": no task starts before its not-before instant
  pub not_before : (d : ℕ → ℕ) → Allowed p c d → (i t s : ℕ) → t < p.tasks → (timed p c d i).start t ≡ some s
      → release_of p.releases t ≤ s
  not_before d w = start_not_before a d (allowed_lasts a d w)

  -- a second walk at the same instant changes nothing
  pub settled : (d : ℕ → ℕ) (i : ℕ) → dispatch p c (entries c) (timed p c d i) ≡ timed p c d i
  unfolding timed opening step
  settled d zero = dispatch_settled p c (entries c) blank
  settled d (suc i) = dispatch_settled p c (entries c) (advance (time_up d (timed p c d i)) (timed p c d i))

  -- no more units of a type are taken than it has
  pub units_enough_lem : (d : ℕ → ℕ) → Allowed p c d → (i k : ℕ) → busy c (timed p c d i) k ≤ get_or p.units k 0
  units_enough_lem d w = response-laws.units_enough_lem a d (allowed_lasts a d w)

  -- a run that has ended stays ended
  pub stays_ended : (d : ℕ → ℕ) (i j : ℕ) → i ≤ j → over p (timed p c d i) ≡ true → over p (timed p c d j) ≡ true
  stays_ended = timed_over_stays p c

  -- the response, which is the greatest finish, is the first instant at which the run is over
  pub first_over : (d : ℕ → ℕ) → Allowed p c d → (i : ℕ) → over p (timed p c d i) ≡ leb (response p c d) i
  first_over d w = response-laws.over_timed a d (allowed_lasts a d w)

  -- from the greatest not-before instant on, until it is over, some task runs after each walk
  pub never_idle : (d : ℕ → ℕ) → Allowed p c d → (i : ℕ) → greatest_release p ≤ i → over p (timed p c d i) ≡ false
      → (t : ℕ) × (t < p.tasks) × (is_running (timed p c d i) t ≡ true)
  never_idle d w = response-laws.never_idle a d (allowed_lasts a d w)

  -- every run with allowed times is over by the bound
  pub within_bound : (d : ℕ → ℕ) → Allowed p c d → response p c d ≤ bound p c
  within_bound = listed.within_bound a

  -- the bound is at most the greatest not-before instant plus the sum of the worst times
  pub bound_sum : bound p c ≤ greatest_release p + sum p.tasks (worst p c)
  unfolding bound horizon
  bound_sum = response-laws.response_sum a (worst p c) (worst_lasts a)

  -- ---- the comparison of two runs

  -- no time longer in the first run: at each instant every task is at least as far in it
  pub compare : (d d' : ℕ → ℕ) → Allowed p c d → Allowed p c d' → ((t : ℕ) → t < p.tasks → d t ≤ d' t)
      → (i t : ℕ) → t < p.tasks → as_far (stage p d (timed p c d i) t) (stage p d' (timed p c d' i) t) ≡ true
  compare d d' w w' h = as_far_lem a d d' (allowed_lasts a d w) h

  -- whatever the times, the task at position k starts no later than in the other run plus what the tasks before it ran longer
  pub overrun : (d d' : ℕ → ℕ) → Lasting p d → Lasting p d' → (i k : ℕ) → k < p.tasks
      → has_started (timed p c d' i) (task_at c k) ≡ true
      → has_started (timed p c d (i + sum k (λ j. d (task_at c j) - d' (task_at c j)))) (task_at c k) ≡ true
  overrun = response-laws.start_overrun a

  -- ---- a list of reports, accepted or not

  module _ (reports : List ℕ) where
    -- the notes are those of the timed run with the reported times, the worst where none is reported, which are allowed
    pub notes_run : journal p c reports ≡ timed p c (taken_time p c (journal p c reports)) (accepted_count (answers p c reports))
    notes_run = rw (← journal_instant p c reports) (listed.run a (journal p c reports) (listed.reached a reports))

    pub notes_allowed : Allowed p c (taken_time p c (journal p c reports))
    notes_allowed = taken_allowed a (journal p c reports) (listed.reached a reports).sound

    -- every task is at least as far as in the run of worst times at the instant equal to the number of accepted reports
    pub ahead : (t : ℕ) → t < p.tasks
        → as_far (stage p (worst p c) (journal p c reports) t)
        (stage p (worst p c) (timed p c (worst p c) (accepted_count (answers p c reports))) t) ≡ true
    ahead t l = rw (← journal_instant p c reports) (listed.notes_far a (journal p c reports) (listed.reached a reports) t l)

    -- no list has more accepted reports than the bound
    pub few : accepted_count (answers p c reports) ≤ bound p c
    few = rw (← journal_instant p c reports) (listed.reached a reports).soon

    -- and one with that many has ended the run
    pub last : accepted_count (answers p c reports) ≡ bound p c → over p (journal p c reports) ≡ true
    last e = listed.over_by_bound a (journal p c reports) (listed.reached a reports) (omega (arith, journal_instant p c reports))

-- ---- one report, of any plan and on any notes: what "the order at a tick is 12, 13, 16, 14" changed (document 02, 7)

module _ (p : Plan) (c : Constraint) (n : Notes) (report : ℕ) where
  -- the order before it: 13, 14, 16 (document 01, "When an operation says no", Tick; without 15: document 02, 1)
  abbrev pub stranger_first : Verdict
  stranger_first =
      cond (over p n) (refused 13 0)
      (unless_at 14 width (idle n report)
      (unless_at 16 width (overdue p c n report)
      no_refusal))

  -- "A report can name a task that is not running while another task overruns"; where the run is over, 13 comes first
  abbrev pub both_faults : Bool
  both_faults = not (over p n) && (any width (idle n report) && any width (overdue p c n report))

  -- reports with both faults "now give 16, with the overrunning task as place"; every other report gets the answer that the order
  -- before gave it
  pub hung_first : refusal p c n report ≡ cond both_faults (refused 16 (first width (overdue p c n report))) stranger_first
  unfolding refusal unless_at
  hung_first =
      rw (first_any width (idle n report), first_any width (overdue p c n report))
      (tried (over p n) (any width (idle n report)) (any width (overdue p c n report)) _ _ _)
    where
      tried : (ended stranger late : Bool) (r13 r14 r16 : Verdict)
          → cond ended r13 (cond late r16 (cond stranger r14 no_refusal))
          ≡ cond (not ended && (stranger && late)) r16 (cond ended r13 (cond stranger r14 (cond late r16 no_refusal)))
      tried true stranger late r13 r14 r16 = refl
      tried false true late r13 r14 r16 = refl
      tried false false late r13 r14 r16 = refl

  -- "reports with both faults gave 14"
  pub gave_fourteen : both_faults ≡ true → stranger_first ≡ refused 14 (first width (idle n report))
  unfolding unless_at
  gave_fourteen e =
      let goes_on = not-true (over p n) (and_left _ _ e) in
      let stranger = first_any width (idle n report) ∙ and_left _ _ (and_right (not (over p n)) _ e) in
      rw (goes_on, stranger) refl

  -- both orders accept the same reports: the notes after a report are those that the order before left
  pub heard_as_before : hear p c n report ≡ cond (eqb stranger_first.number 0) (step p c (has report) n) n
  unfolding hear
  heard_as_before = rw hung_first (by_test both_faults (λ e. rw (e, gave_fourteen e) refl) (λ e. rw e refl))
