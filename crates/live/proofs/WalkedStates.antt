-- The walk on the sets and arrays of a tidy state: it leads to the state that stands for the walk on its notes. Assumes nothing.
use mathlib.Core.Path.{◌≡◌, refl, sym, ap, ap₂, ◌∙◌, fun_ext, subst}
use mathlib.Core.Bool.{Bool, true, false, cond, ◌&&◌, ◌||◌, not, and-true, or-false, or-true}
use mathlib.Core.List.{List}
use Prim.Native.Nat.{ℕ, zero, suc, ◌+◌, ◌-◌, ◌≤◌, ◌<◌}
use native.Mathlib.Nat.{le_refl, lt_of_lt_of_le}
use native.Mathlib.Numerals.{add-one}
use native.Mathlib.Omega.{arith}
use borrow.Author.Tests.{eqb-true, eqb-false, eq-eqb, ne_eqb, lt-ltb}
use lib.Dec.{eqb, leb, ltb}
use lib.ListN.{get_or, length-set, drop}
use lib.Seq.{get_or-set_same, get_or-set_other}
use Rattle.task_set.specs.Bounded.{all, implies}
use Rattle.task_set.specs.Sets.{width, has, insert, subset, without}
use Rattle.task_set.proofs.Truth.{by_test, clash, off, or_left, or_left_off, or_right_off}
use Rattle.task_set.proofs.Bounded.{any_intro, any_none, any_next}
use Rattle.task_set.proofs.Members.{has_insert_low, insert_small, has_without, without_small, has_set_of, set_of_small, set_ext}
use Rattle.plan.specs.Rules.{predecessors_of, release_of}
use Rattle.plan.proofs.Accepted.{Accepted}
use Rattle.runs.specs.Running.{Entry, entries, Notes, has_started, cleared, released, may_start, begin, dispatch}
use Rattle.runs.specs.Journal.{newly_started}
use Rattle.runs.proofs.Orders.{entry_of, entries_from, entries_end}
use Rattle.runs.proofs.Closed.{notes_ext}
use Rattle.live_walk.specs.declared.Walked.{Walked}
use Rattle.live_walk.specs.Steps.{may_go, gone, walk_from}
use Rattle.live.specs.declared.State.{State}
use Rattle.live.specs.States.{is_started, notes_of}
use Rattle.live.specs.Ticks.{moved}
use Rattle.live.specs.Steps.{users_of, running_of, state_from, Tidy, Walkable, walked_on}
use Rattle.live.proofs.Standing.{task_at, type_at}
use Rattle.live.proofs.StateBack.{started_notes, finished_notes, running_notes, running_small, taken, state_back}
use Rattle.live.proofs.Choices.{busy_size}

-- the state that a walk of s has come to
abbrev at : State → Walked → State
at s w = state_from s.plan s.constraint s.instant w.begun s.finished w.starts s.finishes

-- the next task of the order may start, by the sets
abbrev goes : State → ℕ → Bool
goes s running =
    let t = task_at s s.started in
    let k = type_at s s.started in
    may_go (predecessors_of s.plan.predecessors t) s.finished (release_of s.plan.releases t) s.instant
    (get_or (users_of s) k 0) running (get_or s.plan.units k 0)

-- ---- it starts

module _ (s : State) (y : Tidy s) (low : s.started < s.plan.tasks) where
  abbrev a : Accepted s.plan s.constraint
  a = taken s y

  abbrev t : ℕ
  t = task_at s s.started

  abbrev k : ℕ
  k = type_at s s.started

  abbrev next : State
  next = at s (gone s.constraint.order s.instant (record { begun = s.started; running = 0; starts = s.starts }))

  task_low : t < width
  task_low = lt_of_lt_of_le (a.task s.started low) a.few_tasks

  unstarted : is_started s t ≡ false
  unfolding is_started
  unstarted =
      any_none s.started _ (λ j m. ne_eqb (task_at s j) t (λ e. omega (arith, a.once j s.started (omega arith) low e)))

  -- one more task has started
  started_more : (u : ℕ) → is_started next u ≡ is_started s u || eqb t u
  unfolding is_started
  started_more u = any_next s.started (λ j. eqb (task_at s j) u)

  -- a task that is not the next keeps its start
  start_kept : (u : ℕ) → eqb t u ≡ false → get_or next.starts u 0 ≡ get_or s.starts u 0
  start_kept u e = get_or-set_other s.starts t u s.instant 0 (λ q. eqb-false t u e (sym q))

  next_tidy : Tidy next
  next_tidy =
      record {
        checked = y.checked;
        few = omega arith;
        finished_started_lem = λ u e. started_more u ∙ or_left (eqb t u) (y.finished_started_lem u e);
        starts_zero = λ u e.
            let f = sym (started_more u) ∙ e in
            start_kept u (or_right_off (is_started s u) (eqb t u) f) ∙ y.starts_zero u (or_left_off (is_started s u) (eqb t u) f);
        finishes_zero = y.finishes_zero;
        finished_small = y.finished_small;
        starts_long = length-set s.starts t s.instant ∙ y.starts_long;
        finishes_long = y.finishes_long;
      }

  begins : begin (notes_of s) t ≡ notes_of next
  begins =
      notes_ext refl
      (λ u. rw (started_more u)
      (by_test (eqb t u)
      (λ e. let l = task_low in
      rw (e, or-true (is_started s u), ← eqb-true t u e, get_or-set_same s.starts t _ 0 (omega (arith, y.starts_long))))
      (λ e. rw (e, or-false (is_started s u), start_kept u e))))
      (λ u. refl)

  next_running : insert (running_of s) t ≡ running_of next
  next_running =
      set_ext width _ (running_of next) (insert_small (running_of s) t (running_small s)) (running_small next)
      (λ u l. has_insert_low (running_of s) t u l
      ∙ rw (running_notes s u l, running_notes next u l, started_notes s u, started_notes next u, started_more u)
      (rw (finished_notes s u) (one (is_started s u) (eqb t u) (has s.finished u) (unfinished u))))
    where
      unfinished : (u : ℕ) → eqb t u ≡ true → has s.finished u ≡ false
      unfinished u e =
          off (has s.finished u)
          (λ f. clash (y.finished_started_lem u f) (subst (λ (v : ℕ). is_started s v ≡ false) (eqb-true t u e) unstarted))

      one : (x y z : Bool) → (y ≡ true → z ≡ false) → (x && not z) || y ≡ (x || y) && not z
      one true true true h = absurd (clash refl (h refl))
      one true true false h = refl
      one true false z h = or-false (not z)
      one false true z h = sym (ap not (h refl))
      one false false z h = refl

  -- ---- it may start by the sets exactly if it may by the notes

  may : may_start s.plan s.constraint (notes_of s) (entry_of s.constraint s.started) ≡ goes s (running_of s)
  unfolding may_start cleared released subset
  may =
      ap₂ (λ (x : Bool) (n : ℕ).
      x && (leb (release_of s.plan.releases t) s.instant && ltb n (get_or s.plan.units k 0)))
      (ap (λ (f : ℕ → Bool). all width (λ u. implies (has (predecessors_of s.plan.predecessors t) u) (f u)))
      (fun_ext (finished_notes s)))
      (busy_size s a y.few k (lt_of_lt_of_le (a.type s.started low) a.few_types))

-- the walk on the notes of a state, over these entries, and from position j of the order
abbrev on_notes : State → List Entry → Notes
on_notes s es = dispatch s.plan s.constraint es (notes_of s)

abbrev from : State → ℕ → Notes
from s j = on_notes s (drop j (entries s.constraint))

dispatched : (s : State) (y : Tidy s) (low : s.started < s.plan.tasks)
    → from s s.started ≡ cond (goes s (running_of s)) (from (next s y low) (s.started + 1)) (notes_of s)
unfolding dispatch
dispatched s y low =
    ap (on_notes s) (entries_from s.constraint s.started (omega (arith, (taken s y).whole)))
    ∙ rw (started_notes s (t s y low), unstarted s y low, may s y low, begins s y low, add-one s.started) refl

-- ---- the whole walk

-- the walk of a state with these users and so many positions left, and all of it
abbrev walk : State → List ℕ → ℕ → Walked → Walked
walk s users =
    walk_from s.plan.units s.plan.predecessors s.plan.releases s.constraint.order s.constraint.chosen users
    s.instant s.finished

abbrev walk_all : State → Walked
walk_all s =
    walk s (users_of s) (s.constraint.len - s.started)
    (record { begun = s.started; running = running_of s; starts = s.starts })

module _ (s : State) (y : Tidy s) where
  -- a walk that has come to w, with the notes n
  record Come (w : Walked) (n : Notes) : Type 0 where
    tidy : Tidy (at s w)
    running : w.running ≡ running_of (at s w)
    notes : notes_of (at s w) ≡ n

  walk_notes : (m : ℕ) (w : Walked) → w.begun + m ≡ s.plan.tasks → Tidy (at s w) → w.running ≡ running_of (at s w)
      → Come (walk s (users_of s) m w) (from (at s w) w.begun)
  unfolding walk_from dispatch
  walk_notes zero w e z r =
      let q : w.begun ≡ s.constraint.len = omega (arith, (taken s y).whole) in
      record {
        tidy = z;
        running = r;
        notes = sym (ap (on_notes (at s w)) (ap (λ (x : ℕ). drop x (entries s.constraint)) q ∙ entries_end s.constraint));
      }
  walk_notes (suc m) w e z r =
      go (goes (at s w) w.running) (rw (← r) at (dispatched (at s w) z low))
      (walk_notes m (gone s.constraint.order s.instant w) (omega arith) (next_tidy (at s w) z low)
      (rw r (next_running (at s w) z low)))
    where
      low : w.begun < s.plan.tasks
      low = omega arith

      go : (b : Bool) {x : Walked} {n here : Notes} → here ≡ cond b n (notes_of (at s w)) → Come x n → Come (cond b x w) here
      go true f h = rw f h
      go false f h = record { tidy = z; running = r; notes = sym f }

  -- the tasks that have started are passed
  skip : (k : ℕ) → k ≤ s.started → from s k ≡ from s 0
  unfolding dispatch is_started
  skip zero l = refl
  skip (suc k) l =
      sym (ap (on_notes s) (entries_from s.constraint k (omega (arith, (taken s y).whole, y.few)))
      ∙ rw (started_notes s (task_at s k), any_intro _ (λ j. eqb (task_at s j) (task_at s k)) k l (eq-eqb (task_at s k) _ refl)) refl)
      ∙ skip k (omega arith)

  abbrev walked : Walked
  walked = walk_all s

  -- the state after the walk
  abbrev pub after : State
  after = at s walked

  come : Come walked (from s s.started)
  come =
      walk_notes (s.constraint.len - s.started) (record { begun = s.started; running = running_of s; starts = s.starts })
      (omega (arith, (taken s y).whole, y.few)) y refl

  pub walked_tidy : Tidy after
  walked_tidy = come.tidy

  -- its notes are those after the walk of the notes
  pub walked_notes : notes_of after ≡ dispatch s.plan s.constraint (entries s.constraint) (notes_of s)
  walked_notes = come.notes ∙ skip s.started (le_refl s.started)

  -- the tasks that run after the walk and did not before are those that it started
  fresh_set : without walked.running (running_of s) ≡ newly_started (notes_of s) (notes_of after)
  unfolding newly_started
  fresh_set =
      rw come.running
      (set_ext width _ _ (without_small width (running_of after) _ (running_small after)) (set_of_small width _ (le_refl width))
      (λ u l. has_without (running_of after) (running_of s) u
      ∙ rw (running_notes after u l, running_notes s u l, has_set_of width _ u (le_refl width), lt-ltb u width l)
      (rw (finished_notes s u) (one (has_started (notes_of after) u) (has_started (notes_of s) u) (has s.finished u)
      (λ e. started_notes s u ∙ y.finished_started_lem u e)))))
    where
      one : (x y z : Bool) → (z ≡ true → y ≡ true) → (x && not z) && not (y && not z) ≡ x && not y
      one false y z h = refl
      one true y true h = sym (ap not (h refl))
      one true y false h = ap not (and-true y)

  -- the answer of the walk
  walked_moved : record { number = 0; place = 0; started = without walked.running (running_of s); state = after } ≡ walked_on s
  walked_moved =
      ap₂ (λ (f : ℕ) (x : State). record { number = 0; place = 0; started = f; state = x }) fresh_set
      (sym (state_back after walked_tidy))
      ∙ ap (moved s.plan s.constraint (notes_of s)) walked_notes

-- the answer, from the walk that a state's running tasks and users lead to
pub walked_by : (s : State) {users : List ℕ} {running fresh : ℕ} → Walkable s users running → {x : Walked}
    → x ≡ walk s users (s.constraint.len - s.started) (record { begun = s.started; running = running; starts = s.starts })
    → fresh ≡ without x.running running
    → record { number = 0; place = 0; started = fresh; state = at s x } ≡ walked_on s
walked_by s y {x} h f =
    let q : x ≡ walk_all s = h ∙ rw (y.users_are, y.running_are) refl in
    ap₂ (λ (g : ℕ) (z : Walked). record { number = 0; place = 0; started = g; state = at s z })
    (f ∙ ap₂ (λ (z : Walked) (r : ℕ). without z.running r) q y.running_are) q
    ∙ walked_moved s y.tidy
