-- The comparison of two timed runs: with no longer times, every task is at least as far at each instant. Assumes nothing.
use mathlib.Core.Path.{◌≡◌, refl, sym, ◌∙◌}
use mathlib.Core.Bool.{Bool, true, false, cond}
use Prim.Native.Nat.{ℕ, ◌-◌, ◌≤◌, ◌<◌}
use native.Mathlib.Nat.{le_trans}
use native.Mathlib.Omega.{arith}
use borrow.Author.Tests.{leb-true, leb-false, le-leb, lt-ltb, ltb-true}
use lib.Dec.{leb, ltb}
use Rattle.task_set.specs.Sets.{width, has}
use Rattle.task_set.proofs.Truth.{by_test, clash, and_left, and_right, and_both, implies_elim, implies_intro}
use Rattle.task_set.proofs.Bounded.{all_intro, all_elim}
use Rattle.plan.specs.declared.Plan.{Plan}
use Rattle.plan.specs.declared.Constraint.{Constraint}
use Rattle.plan.specs.Rules.{predecessors_of}
use Rattle.plan.proofs.Accepted.{Accepted}
use Rattle.dispatch_theory.proofs.Greedy.{compare_start}
use Rattle.runs.specs.Running.{has_finished, cleared, timed}
use Rattle.runs.specs.Progress.{Stage, waiting, ready, running, finished, stage, as_far}
use Rattle.runs.proofs.Positions.{task_at, position, position_low}
use Rattle.runs.proofs.Orders.{Lasting, start_of, finish_of, lawful, greedy}
use Rattle.runs.proofs.Closed.{timed_closed, finished_timed}

-- the stage of a task that starts at s and finishes at f, at the instant i
abbrev at_instant : ℕ → ℕ → ℕ → Bool → Stage
at_instant s f i b = cond (leb f i) finished (cond (leb s i) (running (f - i)) (cond b ready waiting))

far_finished : (x : Stage) → as_far finished x ≡ true
unfolding as_far
far_finished waiting = refl
far_finished ready = refl
far_finished (running left) = refl
far_finished finished = refl

far_running : (left : ℕ) (b : Bool) → as_far (running left) (cond b ready waiting) ≡ true
unfolding as_far
far_running left true = refl
far_running left false = refl

far_ready : (b b' : Bool) → (b' ≡ true → b ≡ true) → as_far (cond b ready waiting) (cond b' ready waiting) ≡ true
unfolding as_far
far_ready true true h = refl
far_ready true false h = refl
far_ready false true h = absurd (clash (h refl) refl)
far_ready false false h = refl

-- a task that starts and finishes no later is at least as far
no_later : (s f s' f' i : ℕ) (b b' : Bool) → s ≤ s' → f ≤ f' → (b' ≡ true → b ≡ true)
    → as_far (at_instant s f i b) (at_instant s' f' i b') ≡ true
unfolding as_far
no_later s f s' f' i b b' l m h =
    by_test (leb f i) (λ e. rw e (far_finished (at_instant s' f' i b')))
    (λ e. by_test (leb f' i) (λ g. absurd (omega (arith, leb-false f i e, leb-true f' i g))) (unfinished e))
  where
    goal : Type 0
    goal = as_far (at_instant s f i b) (at_instant s' f' i b') ≡ true

    both_run : as_far (running (f - i)) (running (f' - i)) ≡ true
    both_run = le-leb (f - i) (f' - i) (omega arith)

    unfinished : leb f i ≡ false → leb f' i ≡ false → goal
    unfinished e g =
        by_test (leb s i)
        (λ r. by_test (leb s' i) (λ q. rw (e, g, r, q) both_run) (λ q. rw (e, g, r, q) (far_running (f - i) b')))
        (λ r. by_test (leb s' i) (λ q. absurd (omega (arith, leb-false s i r, leb-true s' i q)))
        (λ q. rw (e, g, r, q) (far_ready b b' h)))

-- ---- two runs

module _ {p : Plan} {c : Constraint} (a : Accepted p c) where
  -- the stage of a task in a timed run
  stage_timed : (d : ℕ → ℕ) → Lasting p d → (i t : ℕ) → t < p.tasks
      → stage p d (timed p c d i) t ≡ at_instant (start_of p c d t) (finish_of p c d t) i (cleared p (timed p c d i) t)
  unfolding stage
  stage_timed d positive i t l =
      rw (timed_closed a d positive i, lt-ltb t p.tasks l)
      (by_test (leb (finish_of p c d t) i) (λ e. rw e refl)
      (λ e. by_test (leb (start_of p c d t) i) (λ f. rw (e, f) refl) (λ f. rw (e, f) refl)))

  module _ (d d' : ℕ → ℕ) (positive : Lasting p d) (shorter : (t : ℕ) → t < p.tasks → d t ≤ d' t) where
    positive' : Lasting p d'
    positive' t l = le_trans (positive t l) (shorter t l)

    start_no_later : (t : ℕ) → t < p.tasks → start_of p c d t ≤ start_of p c d' t
    start_no_later t l =
        compare_start (lawful a) (greedy a d) (greedy a d') (λ j m. shorter (task_at c j) (a.task j m)) (position c t)
        (position_low a t l)

    pub finish_no_later : (t : ℕ) → t < p.tasks → finish_of p c d t ≤ finish_of p c d' t
    finish_no_later t l = omega (arith, start_no_later t l, shorter t l)

    finished_no_later : (i t : ℕ) → has_finished (timed p c d' i) t ≡ true → has_finished (timed p c d i) t ≡ true
    finished_no_later i t e =
        let f = sym (finished_timed a d' positive' i t) ∙ e in
        let l = and_left (ltb t p.tasks) _ f in
        finished_timed a d positive i t
        ∙ and_both l (le-leb _ i (le_trans (finish_no_later t (ltb-true t p.tasks l))
        (leb-true _ i (and_right (ltb t p.tasks) _ f))))

    cleared_no_later : (i t : ℕ) → cleared p (timed p c d' i) t ≡ true → cleared p (timed p c d i) t ≡ true
    unfolding cleared
    cleared_no_later i t e =
        all_intro width _
        (λ u l. implies_intro (has (predecessors_of p.predecessors t) u)
        (λ h. finished_no_later i u (implies_elim (has (predecessors_of p.predecessors t) u) _ (all_elim width _ e u l) h)))

    pub as_far_lem : (i t : ℕ) → t < p.tasks → as_far (stage p d (timed p c d i) t) (stage p d' (timed p c d' i) t) ≡ true
    as_far_lem i t l =
        rw (stage_timed d positive i t l, stage_timed d' positive' i t l)
        (no_later _ _ _ _ i (cleared p (timed p c d i) t) (cleared p (timed p c d' i) t)
        (start_no_later t l) (finish_no_later t l) (cleared_no_later i t))
