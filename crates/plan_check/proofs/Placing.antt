-- The set of the tasks that stand before a position, as the loops over the order keep it. Assumes nothing.
use mathlib.Core.Path.{◌≡◌, refl, sym, ap, ◌∙◌}
use mathlib.Core.Bool.{Bool, true, false, ◌&&◌, ◌||◌, not}
use mathlib.Core.List.{List}
use Prim.Native.Nat.{ℕ, ◌+◌, ◌≤◌, ◌<◌}
use native.Mathlib.Nat.{lt_of_lt_of_le}
use borrow.Author.Tests.{leb-false}
use lib.Dec.{eqb, leb}
use Rattle.task_set.specs.Bounded.{any, implies}
use Rattle.task_set.specs.Sets.{width, has, insert, subset}
use Rattle.task_set.proofs.Truth.{by_test}
use Rattle.task_set.proofs.Bounded.{any_cong, any_next, not_all}
use Rattle.task_set.proofs.Members.{has_none, has_insert_low}
use Rattle.plan.specs.Rules.{predecessors_of}
use Rattle.plan.specs.Refusals.{entry_at, misplaced}
use Rattle.plan.specs.Steps.{placed, unmet}

-- s holds the tasks that stand before position i
pub record Holds (order : List ℕ) (i s : ℕ) : Type 0 where
  pub has_placed : (u : ℕ) → u < width → has s u ≡ placed order i u

pub holds_none : {order : List ℕ} → Holds order 0 0
unfolding placed any
holds_none = record { has_placed = λ u l. has_none u }

pub holds_more : {order : List ℕ} {i s : ℕ} → Holds order i s → Holds order (i + 1) (insert s (entry_at order i))
unfolding placed
holds_more {order} {i} {s} h =
    record {
      has_placed = λ u l.
          has_insert_low s (entry_at order i) u l ∙ ap (λ (b : Bool). b || eqb (entry_at order i) u) (h.has_placed u l)
          ∙ sym (any_next i (λ j. eqb (entry_at order j) u));
    }

-- what the loops test, from the answers of the functions that they call
module _ {order : List ℕ} {i s : ℕ} (h : Holds order i s) where
  pub misplaced_by : {tasks : ℕ} {b : Bool} → tasks ≤ width → b ≡ has s (entry_at order i) → leb tasks (entry_at order i) || b
      ≡ misplaced tasks order i
  unfolding misplaced placed
  misplaced_by {tasks} l e = ap (λ (b : Bool). leb tasks t || b) e ∙ by_test (leb tasks t) absent present
    where
      t : ℕ
      t = entry_at order i

      absent : leb tasks t ≡ true → leb tasks t || has s t ≡ leb tasks t || placed order i t
      absent e = rw e refl

      present : leb tasks t ≡ false → leb tasks t || has s t ≡ leb tasks t || placed order i t
      present e = ap (λ (b : Bool). leb tasks t || b) (h.has_placed t (lt_of_lt_of_le (leb-false tasks t e) l))

  pub unmet_by : (predecessors : List ℕ) {p : ℕ} {b : Bool} → p ≡ predecessors_of predecessors (entry_at order i)
      → b ≡ subset p s → not b ≡ unmet predecessors order i
  unfolding subset unmet
  unmet_by predecessors {p} {b} e f =
      ap not f ∙ not_all width (λ u. implies (has p u) (has s u))
      ∙ any_cong width (λ u. not (implies (has p u) (has s u))) (λ u. has p u && not (placed order i u))
      (λ u l. each (has p u) u l)
      ∙ ap (λ (x : ℕ). any width (λ u. has x u && not (placed order i u))) e
    where
      each : (b : Bool) (u : ℕ) → u < width → not (implies b (has s u)) ≡ b && not (placed order i u)
      each true u l = ap not (h.has_placed u l)
      each false u l = refl
