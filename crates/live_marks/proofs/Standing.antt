-- The tasks at the first positions of an order, as the loops gather them. Assumes nothing.
use mathlib.Core.Path.{◌≡◌, refl, sym, ap, ◌∙◌, fun_ext}
use mathlib.Core.Bool.{Bool, true, false, cond, ◌&&◌, ◌||◌, or-false}
use mathlib.Core.List.{List}
use Prim.Native.Nat.{ℕ, ◌+◌, ◌^◌, ◌<◌}
use native.Mathlib.Nat.{le_refl}
use borrow.Author.Tests.{lt-ltb, eq-eqb, ne_eqb}
use lib.Dec.{eqb}
use lib.ListN.{get_or, set}
use Rattle.task_set.specs.Bounded.{any, tabulate}
use Rattle.task_set.specs.Sets.{width, has, insert, set_of}
use Rattle.task_set.proofs.Bounded.{any_next}
use Rattle.task_set.proofs.Members.{has_insert_low, insert_small, has_set_of, set_of_small, set_ext}
use Rattle.task_set.proofs.Tables.{get_d_tabulate, set_tabulate}
use Rattle.plan.specs.Rules.{most_types}
use Rattle.plan.specs.Refusals.{entry_at}
use Rattle.live_marks.specs.Steps.{tasks_at, type_users}

module _ (order : List ℕ) (n : ℕ) (q : ℕ → Bool) where
  -- membership below the width
  pub has_tasks : (t : ℕ) → t < width → has (tasks_at order n q) t ≡ any n (λ j. q j && eqb (entry_at order j) t)
  unfolding tasks_at
  has_tasks t l = has_set_of width _ t (le_refl width) ∙ rw (lt-ltb t width l) refl

  pub tasks_small : tasks_at order n q < 2 ^ width
  unfolding tasks_at
  tasks_small = set_of_small width _ (le_refl width)

pub tasks_none : (order : List ℕ) (q : ℕ → Bool) → tasks_at order 0 q ≡ 0
unfolding tasks_at set_of any
tasks_none order q =
    let e : (t : ℕ) → any 0 (λ j. q j && eqb (entry_at order j) t) ≡ false = λ t. refl in ap (set_of width) (fun_ext e)

-- one position more
tasks_more : (order : List ℕ) (n : ℕ) (q : ℕ → Bool)
    → cond (q n) (insert (tasks_at order n q) (entry_at order n)) (tasks_at order n q) ≡ tasks_at order (n + 1) q
tasks_more order n q =
    set_ext width _ (tasks_at order (n + 1) q) (small (q n)) (tasks_small order (n + 1) q)
    (λ t l. grown (q n) t l ∙ sym (has_tasks order (n + 1) q t l ∙ any_next n _))
  where
    s : ℕ
    s = tasks_at order n q

    e : ℕ
    e = entry_at order n

    small : (b : Bool) → cond b (insert s e) s < 2 ^ width
    small true = insert_small s e (tasks_small order n q)
    small false = tasks_small order n q

    grown : (b : Bool) (t : ℕ) → t < width
        → has (cond b (insert s e) s) t ≡ any n (λ j. q j && eqb (entry_at order j) t) || (b && eqb e t)
    grown true t l = has_insert_low s e t l ∙ ap (λ (b : Bool). b || eqb e t) (has_tasks order n q t l)
    grown false t l = has_tasks order n q t l ∙ sym (or-false _)

-- the same from what a loop holds, what it tests and what it holds next
pub tasks_step : (order : List ℕ) (n : ℕ) (q : ℕ → Bool) {s r : ℕ} {b : Bool} → s ≡ tasks_at order n q → b ≡ q n
    → r ≡ cond b (insert s (entry_at order n)) s → r ≡ tasks_at order (n + 1) q
tasks_step order n q e f g = g ∙ rw (e, f) (tasks_more order n q)

-- each type's users: the next position is one of its own type alone
pub users_more : (order chosen : List ℕ) (n : ℕ) {users : List ℕ} {s : ℕ} → entry_at chosen n < most_types
    → users ≡ tabulate most_types (type_users order chosen n) → s ≡ insert (get_or users (entry_at chosen n) 0) (entry_at order n)
    → set users (entry_at chosen n) s ≡ tabulate most_types (type_users order chosen (n + 1))
users_more order chosen n l e f =
    let k = entry_at chosen n in
    rw (f, e, get_d_tabulate most_types (type_users order chosen n) k 0 l)
    (ap (set (tabulate most_types (type_users order chosen n)) k)
    (rw (eq-eqb k k refl) at (tasks_more order n (λ j. eqb (entry_at chosen j) k)))
    ∙ set_tabulate most_types (type_users order chosen n) (type_users order chosen (n + 1)) k
    (λ i h. rw (ne_eqb k i (λ q. h (sym q))) at (tasks_more order n (λ j. eqb (entry_at chosen j) i))))
