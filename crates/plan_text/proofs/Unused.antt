-- No text leaves anything in an unused entry. Assumes nothing.
use mathlib.Core.Path.{◌≡◌, refl, sym, ◌∙◌}
use mathlib.Core.Bool.{Bool, true, false, cond, ◌&&◌}
use mathlib.Core.List.{List, [], ◌∷◌}
use mathlib.Core.Logic.{⊎_elim}
use Prim.Native.Nat.{ℕ, zero, suc, ◌+◌, ◌≤◌, ◌<◌, max}
use native.Mathlib.Omega.{arith}
use lib.Dec.{eqb, ltb}
use lib.ListN.{length, get_or, set, replicate}
use lib.Seq.{get_or-set_other}
use borrow.Author.Tests.{leb-false, ltb-true, eqb-true, not-false}
use Rattle.std.proofs.Common.{Option, None, Some}
use Rattle.task_set.specs.Sets.{has}
use Rattle.task_set.proofs.Truth.{clash, by_test, and_right, or_cases}
use Rattle.task_set.proofs.Members.{has_none, has_insert}
use Rattle.plan.specs.Rules.{most_types, most_tasks, most_pairs, pair_index, time_of}
use Rattle.text_form.specs.declared.Line.{Line}
use Rattle.text_form.specs.declared.Line.TheVariants.{Units, Times, Arrow, Deadline, Release, Choice}
use Rattle.text_form.specs.Form.{most_bytes, newline, split, line_of}
use Rattle.text_fault.specs.declared.Kind.TheVariants as Kind
use Rattle.text_fill.specs.Adding.{number, is_kind, counted, named, stored}
use Rattle.text_fill.proofs.InRange.{times_pair}
use Rattle.plan_text.specs.declared.Answer.{Answer}
use Rattle.plan_text.specs.Reading.{Reading, nothing, line_fault, line_done}
use Rattle.plan_text.specs.Text.{answer_of, answer_by, refused, read_lines, read_text}
use Rattle.plan_text.proofs.Faultless.{Passed, passed}
use Rattle.plan_text.proofs.Room.{counted_ge}

-- the entries from n on are zero
abbrev pub Past : ℕ → List ℕ → Type 0
Past n l = (i : ℕ) → n ≤ i → get_or l i 0 ≡ 0

-- the times are zero but for these tasks with these types
abbrev pub Outside : ℕ → ℕ → List ℕ → Type 0
Outside tasks types times = (t k : ℕ) → (t < tasks → k < types → ⊥) → time_of times t k ≡ 0

-- "an accepted text leaves unused entries zero", and so does every other, whose plan and constraint are all zero
pub record Unused (a : Answer) : Type 0 where
  pub units : Past a.plan.types a.plan.units
  pub best : Outside a.plan.tasks a.plan.types a.plan.bcet
  pub worst : Outside a.plan.tasks a.plan.types a.plan.wcet
  pub predecessors : Past a.plan.tasks a.plan.predecessors
  pub deadlines : Past a.plan.tasks a.plan.deadlines
  pub releases : Past a.plan.tasks a.plan.releases
  pub order : Past a.constraint.len a.constraint.order
  pub chosen : Past a.constraint.len a.constraint.chosen

-- ---- before the first line

zeros : (n i : ℕ) → ◌≡◌ {A = ℕ} (get_or (replicate n 0) i 0) 0
zeros zero i = refl
zeros (suc n) zero = refl
zeros (suc n) (suc i) = zeros n i

no_time : Outside 0 0 (replicate most_pairs 0)
unfolding time_of
no_time t k f = rw (zeros most_pairs (pair_index t k)) (by_test (ltb t most_tasks && ltb k most_types) (λ e. rw e) (λ e. rw e))

none : (number place : ℕ) → Unused (refused number place)
none number place =
    let zero-tasks : Past 0 (replicate most_tasks 0) = λ i l. zeros most_tasks i in
    record {
      units = λ i l. zeros most_types i;
      best = no_time;
      worst = no_time;
      predecessors = zero-tasks;
      deadlines = zero-tasks;
      releases = zero-tasks;
      order = zero-tasks;
      chosen = zero-tasks;
    }

-- ---- one line more

past_set : (b : Bool) (l : List ℕ) {n m : ℕ} (i v : ℕ) → (b ≡ true → i < m) → n ≤ m → Past n l → Past m (cond b (set l i v) l)
past_set true l i v a b h j q = get_or-set_other l i j v 0 (λ e. omega (arith, a refl)) ∙ h j (omega arith)
past_set false l i v a b h j q = h j (omega arith)

outside_set : (b : Bool) (times : List ℕ) {tasks types : ℕ} (t k v : ℕ)
    → (b ≡ true → (t < tasks) × (k < types) × (k < most_types)) → Outside tasks types times
    → Outside tasks types (cond b (set times (pair_index t k) v) times)
unfolding time_of
outside_set false times t k v a h u m f = h u m f
outside_set true times t k v a h u m f = by_test (ltb u most_tasks && ltb m most_types) inside (λ e. rw e)
  where
    inside : ltb u most_tasks && ltb m most_types ≡ true → time_of (set times (pair_index t k) v) u m ≡ 0
    inside e =
        let n : m < most_types = ltb-true m most_types (and_right (ltb u most_tasks) (ltb m most_types) e) in
        let l = a refl in
        rw e (get_or-set_other times (pair_index t k) (pair_index u m) v 0 (λ q. f (omega arith) (omega arith)) ∙ (rw e at (h u m f)))

-- where a line without a fault stores, by its kind
record Fits (r : Reading) (line : Line) : Type 0 where
  next : is_kind line Kind.U ≡ true → number line 0 ≡ r.plan.types
  pair : is_kind line Kind.T ≡ true → (number line 0 < most_tasks) × (number line 1 < most_types) × (number line 1 < r.plan.types)
  to : is_kind line Kind.A ≡ true → has r.seen.timed (number line 1) ≡ true
  due : is_kind line Kind.D ≡ true → has r.seen.timed (number line 0) ≡ true
  released : is_kind line Kind.N ≡ true → has r.seen.timed (number line 0) ≡ true

never : {P : Type 0} → false ≡ true → P
never e = absurd (clash e refl)

fits : (r : Reading) (line : Line) → Passed r line → Fits r line
fits r (Units k n) p = record { next = λ e. eqb-true k _ (not-false _ p.known); pair = never; to = never; due = never; released = never }
fits r (Times t k b w) p =
    let l = times_pair {line = Times t k b w} p.range {t = t} {k = k} {b = b} {w = w} refl in
    record { next = never; pair = λ e. (l.0, l.1, leb-false r.plan.types k p.known); to = never; due = never; released = never }
fits r (Arrow from to) p =
    record { next = never; pair = never; to = λ e. and_right (has r.seen.timed from) _ (not-false _ p.known); due = never; released = never }
fits r (Deadline t d) p = record { next = never; pair = never; to = never; due = λ e. not-false _ p.known; released = never }
fits r (Release t i) p = record { next = never; pair = never; to = never; due = never; released = λ e. not-false _ p.known }
fits r (Choice t k) p = record { next = never; pair = never; to = never; due = never; released = never }

-- what was read leaves them so, and a task with a T line is one of the tasks
pub record Kept (r : Reading) : Type 0 where
  pub unused : Unused (answer_of r)
  pub timed : (t : ℕ) → has r.seen.timed t ≡ true → t < r.plan.tasks

module _ (r : Reading) (line : Line) (f : Fits r line) (h : Kept r) where
  abbrev tasks : ℕ
  tasks = cond (is_kind line Kind.T) (max r.plan.tasks (number line 0 + 1)) r.plan.tasks

  more_tasks : r.plan.tasks ≤ tasks
  more_tasks = by_test (is_kind line Kind.T) (λ e. rw e (omega arith)) (λ e. rw e (omega arith))

  outside_more : (times : List ℕ) (i : ℕ) → Outside r.plan.tasks r.plan.types times
      → Outside tasks (counted line Kind.U r.plan.types)
      (stored line Kind.T times (pair_index (number line 0) (number line 1)) (number line i))
  outside_more times i o =
      let m = counted_ge line Kind.U r.plan.types in
      outside_set (is_kind line Kind.T) times (number line 0) (number line 1) (number line i)
      (λ e. (rw e (omega arith), omega (arith, f.pair e, m), (f.pair e).1))
      (λ u k g. o u k (λ a b. g (omega (arith, more_tasks)) (omega (arith, m))))

  timed_more : (t : ℕ) → has (named line Kind.T r.seen.timed) t ≡ true → t < tasks
  timed_more t =
      by_test (is_kind line Kind.T)
      (λ e. rw e (λ q. ⊎_elim (λ g. omega (arith, h.timed t g)) (λ g. omega (arith, eqb-true (number line 0) t g))
      (or_cases (has r.seen.timed t) (eqb (number line 0) t)
      (sym (has_insert r.seen.timed (number line 0) t (f.pair e).0) ∙ q))))
      (λ e. rw e (h.timed t))

  kept_more : Kept (line_done r line)
  unfolding line_done
  kept_more =
      let p = r.plan in
      let c = r.constraint in
      let u = h.unused in
      let len = counted_ge line Kind.C c.len in
      record {
        unused = record {
          units = past_set (is_kind line Kind.U) p.units (number line 0) (number line 1) (λ e. rw e (omega (arith, f.next e)))
              (counted_ge line Kind.U p.types) u.units;
          best = outside_more p.bcet 2 u.best;
          worst = outside_more p.wcet 3 u.worst;
          predecessors = past_set (is_kind line Kind.A) p.predecessors (number line 1) _
              (λ e. omega (arith, more_tasks, h.timed (number line 1) (f.to e))) more_tasks u.predecessors;
          deadlines = past_set (is_kind line Kind.D) p.deadlines (number line 0) (number line 1)
              (λ e. omega (arith, more_tasks, h.timed (number line 0) (f.due e))) more_tasks u.deadlines;
          releases = past_set (is_kind line Kind.N) p.releases (number line 0) (number line 1)
              (λ e. omega (arith, more_tasks, h.timed (number line 0) (f.released e))) more_tasks u.releases;
          order = past_set (is_kind line Kind.C) c.order c.len (number line 0) (λ e. rw e (omega arith)) len u.order;
          chosen = past_set (is_kind line Kind.C) c.chosen c.len (number line 1) (λ e. rw e (omega arith)) len u.chosen;
        };
        timed = timed_more;
      }

-- ---- every text

either : (b : Bool) {x y : Answer} → (b ≡ true → Unused x) → Unused y → Unused (cond b x y)
either true f g = f refl
either false f g = g

lines_unused : (lines : List (List ℕ)) (k : ℕ) (r : Reading) → Kept r → Unused (read_lines lines k r)
unfolding read_lines
lines_unused [] k r h = h.unused
lines_unused (end ∷ []) k r h = either (eqb (length end) 0) (λ e. h.unused) (none 2 k)
lines_unused (line ∷ next ∷ rest) k r h = go (line_of line) (lines_unused (next ∷ rest) (k + 1))
  where
    go : (form : Option Line) → ((s : Reading) → Kept s → Unused (read_lines (next ∷ rest) (k + 1) s))
        → Unused (answer_by form k r (read_lines (next ∷ rest) (k + 1)))
    go None ih = none 2 k
    go (Some line) ih =
        either (eqb (line_fault r line) 0) (λ e. ih _ (kept_more r line (fits r line (passed r line (eqb-true _ 0 e))) h))
        (none _ k)

pub text_unused : (s : List ℕ) → Unused (read_text s)
unfolding read_text
text_unused s =
    either (ltb most_bytes (length s)) (λ e. none 1 0)
    (lines_unused (split newline s) 1 nothing (record { unused = none 0 0; timed = λ t e. absurd (clash e (has_none t)) }))
