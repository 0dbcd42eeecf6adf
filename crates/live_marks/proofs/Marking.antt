-- The pass over the positions, one at a time, as its loop goes. Assumes nothing.
use mathlib.Core.Path.{◌≡◌, refl, ap, ap₂, fun_ext}
use mathlib.Core.Bool.{true, cond}
use mathlib.Core.List.{List}
use Prim.Native.Nat.{ℕ, ◌+◌, ◌≤◌, ◌<◌, min, zero-le}
use native.Mathlib.Nat.{zero-min}
use native.Mathlib.Omega.{arith}
use borrow.Author.Tests.{le-leb, lt-leb}
use lib.Dec.{eqb, leb}
use lib.ListN.{get_or, set}
use Rattle.task_set.specs.Bounded.{tabulate}
use Rattle.task_set.specs.Sets.{insert}
use Rattle.plan.specs.Rules.{most_types, time_of}
use Rattle.plan.specs.Refusals.{entry_at}
use Rattle.live_marks.specs.declared.Marks.{Marks}
use Rattle.live_marks.specs.Steps.{type_users, reached, marks_of}
use Rattle.live_marks.proofs.Standing.{tasks_none, tasks_step, users_more}

-- a set once its test is asked
pub came : {w at x y : ℕ} (z : ℕ) → w ≤ at → y ≡ x → y ≡ cond (leb w at) x z
came {w} {at} z l e = rw (le-leb w at l) e

pub stays : {w at x y : ℕ} (z : ℕ) → at < w → y ≡ x → y ≡ cond (leb w at) z x
stays {w} {at} z l e = rw (lt-leb w at l) e

module _ (wcet starts order chosen : List ℕ) (n instant : ℕ) where
  -- at position k of len, of which those below n have started
  pub record Marked (len k : ℕ) (m : Marks) : Type 0 where
    pub within : k ≤ len
    pub is : m ≡ marks_of wcet starts order chosen k (min k n) instant

  pub marked_none : {len : ℕ}
      → Marked len 0 (record { started = 0; spent = 0; due = 0; users = tabulate most_types (λ k. 0) })
  marked_none =
      let e = fun_ext (λ (k : ℕ). tasks_none order (λ j. eqb (entry_at chosen j) k)) in
      record { within = zero-le; is = rw (zero-min n, ap (tabulate most_types) e) (simp tasks_none) }

  -- one of the sets of tasks whose worst time comes, at the next position
  reached_more : (i k : ℕ) {x y s w at : ℕ} → x ≡ reached wcet starts order chosen k i
      → s ≡ get_or starts (entry_at order k) 0 → w ≡ time_of wcet (entry_at order k) (entry_at chosen k) → at ≡ i
      → y ≡ cond (leb (s + w) at) (insert x (entry_at order k)) x → y ≡ reached wcet starts order chosen (k + 1) i
  reached_more i k e f g h q = tasks_step order k _ e (ap₂ leb (ap₂ ◌+◌ f g) h) q

  -- the next position, from what the loop holds (m); its task is a user of its type (u)
  module _ {len k : ℕ} {m : Marks} (h : Marked len k m) (low : k < len) (type : entry_at chosen k < most_types) {u : ℕ}
      (j : u ≡ insert (get_or m.users (entry_at chosen k) 0) (entry_at order k)) where
    abbrev users : List ℕ
    users = set m.users (entry_at chosen k) u

    users_then : users ≡ tabulate most_types (type_users order chosen (k + 1))
    users_then = users_more order chosen k type (ap (λ (x : Marks). x.users) h.is) j

    -- one that has not started
    pub marked_past : n ≤ k → Marked len (k + 1)
        (record { started = m.started; spent = m.spent; due = m.due; users = users })
    marked_past l =
        let f : min (k + 1) n ≡ min k n = omega arith in
        record {
          within = omega arith;
          is = rw (users_then, f)
              (ap (λ (x : Marks). record {
                started = x.started;
                spent = x.spent;
                due = x.due;
                users = tabulate most_types (type_users order chosen (k + 1));
              }) h.is);
        }

    -- one that has: its task's start s and worst time w
    pub marked_more : k < n → {s w at started spent due : ℕ} → at ≡ instant
        → s ≡ get_or starts (entry_at order k) 0
        → w ≡ time_of wcet (entry_at order k) (entry_at chosen k)
        → started ≡ insert m.started (entry_at order k)
        → spent ≡ cond (leb (s + w) at) (insert m.spent (entry_at order k)) m.spent
        → due ≡ cond (leb (s + w) (at + 1)) (insert m.due (entry_at order k)) m.due
        → Marked len (k + 1) (record { started = started; spent = spent; due = due; users = users })
    marked_more l a f g x y z =
        let c : min k n ≡ k = omega arith in
        let d : min (k + 1) n ≡ k + 1 = omega arith in
        let e = rw c at h.is in
        record {
          within = omega arith;
          is = rw (
            d,
            users_then,
            tasks_step order k (λ j. true) (ap (λ (x : Marks). x.started) e) refl x,
            reached_more instant k (ap (λ (x : Marks). x.spent) e) f g a y,
            reached_more (instant + 1) k (ap (λ (x : Marks). x.due) e) f g (ap (λ (i : ℕ). i + 1) a) z,
          ) refl;
        }
