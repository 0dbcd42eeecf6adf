-- The set that tasks join, look by look: where no task joins any more, it lacks a task exactly if arrows lead back.
-- Assumes nothing.
use mathlib.Core.Path.{◌≡◌, refl, sym, ap, ◌∙◌, subst}
use mathlib.Core.Bool.{Bool, true, false, cond, ◌&&◌, ◌||◌, not}
use mathlib.Core.List.{List}
use mathlib.Core.Logic.{⊎_elim}
use Prim.Native.Nat.{ℕ, zero, suc, ◌+◌, ◌^◌, ◌≤◌, ◌<◌}
use native.Mathlib.Nat.{le_of_suc-le, lt_of_lt_of_le, le_refl}
use native.Mathlib.Decide.{le_ind}
use native.Mathlib.Numerals.{add-one}
use native.Mathlib.Omega.{arith}
use borrow.Author.Tests.{eq-eqb, eqb-true, lt-ltb, le-ltb, not-true}
use lib.Dec.{eqb, ltb}
use Rattle.task_set.specs.Bounded.{all, count, implies}
use Rattle.task_set.specs.Sets.{width, has, insert, subset, size}
use Rattle.task_set.proofs.Truth.{clash, by_test, off, and_left, and_right, or_left, or_right, or_cases, implies_elim, implies_intro}
use Rattle.task_set.proofs.Bounded.{all_elim, all_intro, any_elim, not_all, count_le, count_past, count_short, count_every}
use Rattle.task_set.proofs.Members.{has_none, has_insert, insert_small, size_grows}
use Rattle.plan.specs.Rules.{predecessors_of}
use Rattle.ranks_arrows.specs.Arrows.{arrow, circle}
use Rattle.ranks_arrows.specs.Steps.{Known, joined}
use Rattle.ranks_arrows.proofs.Orders.{stands_next, stuck_circle}
use Rattle.ranks_arrows.proofs.Rooted.{Rooted, rooted_none, rooted_all, rooted_more}

-- a loop's next step
pub joined_next : (predecessors : List ℕ) (n s : ℕ) {out : ℕ} (b : Bool) → out ≡ joined predecessors n s
    → subset (predecessors_of predecessors n) out ≡ b → cond b (insert out n) out ≡ joined predecessors (n + 1) s
unfolding joined
joined_next predecessors n s {out} b e f =
    sym (ap (λ (k : ℕ). joined predecessors k s) (add-one n) ∙ rw (← e, f) refl)

pub size_low : (s : ℕ) → size s ≤ width
unfolding size
size_low s = count_le width (has s)

-- a set of tasks, with arrows from members alone to its members
pub record Fair (predecessors : List ℕ) (tasks s : ℕ) : Type 0 where
  pub small : s < 2 ^ width
  pub low : (t : ℕ) → has s t ≡ true → t < tasks
  pub rooted : Rooted (arrow predecessors) tasks (has s)

module _ (predecessors : List ℕ) (tasks : ℕ) (known : Known predecessors tasks) where
  pub fair_none : Fair predecessors tasks 0
  fair_none =
      record {
        small = omega arith;
        low = λ t e. absurd (clash e (has_none t));
        rooted = rooted_none (arrow predecessors) tasks (has 0) has_none;
      }

  -- a task joins whose predecessors are members
  fair_more : (s t : ℕ) → Fair predecessors tasks s → t < tasks → subset (predecessors_of predecessors t) s ≡ true → Fair predecessors tasks (insert s t)
  unfolding arrow subset
  fair_more s t h l e =
      record {
        small = insert_small s t h.small;
        low = λ u f. ⊎_elim (h.low u) (λ g. subst (λ (x : ℕ). x < tasks) (eqb-true t u g) l) (or_cases (has s u) (eqb t u) (sym (more u) ∙ f));
        rooted = rooted_more (arrow predecessors) tasks (has s) (has (insert s t)) t l h.rooted
            (λ u m f. implies_elim (has (predecessors_of predecessors t) u) (has s u) (all_elim width _ e u (wide m)) f) more;
      }
    where
      wide : {u : ℕ} → u < tasks → u < width
      wide m = lt_of_lt_of_le m known.few

      more : (u : ℕ) → has (insert s t) u ≡ has s u || eqb t u
      more u = has_insert s t u (wide l)

  pub joined_fair : (n s : ℕ) → n ≤ tasks → Fair predecessors tasks s → Fair predecessors tasks (joined predecessors n s)
  unfolding joined
  joined_fair zero s l h = h
  joined_fair (suc n) s l h =
      let before = joined_fair n s (le_of_suc-le l) h in
      by_test (subset (predecessors_of predecessors n) (joined predecessors n s))
      (λ e. rw e (fair_more (joined predecessors n s) n before l e)) (λ e. rw e before)

  -- ---- members stay

  keeps : (n s t : ℕ) → n < tasks → has (joined predecessors n s) t ≡ true → has (joined predecessors (suc n) s) t ≡ true
  unfolding joined
  keeps n s t l e =
      by_test (subset (predecessors_of predecessors n) (joined predecessors n s))
      (λ f. rw (f, has_insert (joined predecessors n s) n t (lt_of_lt_of_le l known.few)) (or_left (eqb n t) e))
      (λ f. rw f e)

  keeps_all : (s t m n : ℕ) → m ≤ n → n ≤ tasks → has (joined predecessors m s) t ≡ true → has (joined predecessors n s) t ≡ true
  keeps_all s t m n k l e =
      le_ind (λ i. i ≤ tasks → has (joined predecessors i s) t ≡ true) (λ l. e)
      (λ i h ih l. keeps i s t l (ih (le_of_suc-le l))) n k l

  pub joined_keeps : (s t : ℕ) → has s t ≡ true → has (joined predecessors tasks s) t ≡ true
  unfolding joined
  joined_keeps s t = keeps_all s t 0 tasks (omega arith) (le_refl tasks)

  -- one that could join has joined
  joins : (s t : ℕ) → t < tasks → subset (predecessors_of predecessors t) s ≡ true → has (joined predecessors tasks s) t ≡ true
  unfolding joined subset
  joins s t l e = keeps_all s t (suc t) tasks l (le_refl tasks) (rw (there) here)
    where
      there : subset (predecessors_of predecessors t) (joined predecessors t s) ≡ true
      there =
          all_intro width _ (λ u m. implies_intro (has (predecessors_of predecessors t) u) (λ f.
          keeps_all s u 0 t (omega arith) (omega arith) (implies_elim (has (predecessors_of predecessors t) u) (has s u) (all_elim width _ e u m) f)))

      here : has (insert (joined predecessors t s) t) t ≡ true
      here = has_insert (joined predecessors t s) t t (lt_of_lt_of_le l known.few) ∙ or_right (has (joined predecessors t s) t) (eq-eqb t t refl)

  -- ---- as the loop goes on, and at its end

  pub grows : (s : ℕ) {more : ℕ} → Fair predecessors tasks s → more ≡ joined predecessors tasks s → (more ≡ s → ⊥) → size s < size more
  grows s {more} h e f =
      size_grows s more h.small (rw e (joined_fair tasks s (le_refl tasks) h).small)
      (λ t l g. rw e (joined_keeps s t g)) (λ q. f (sym q))

  module _ (s : ℕ) (h : Fair predecessors tasks s) (same : joined predecessors tasks s ≡ s) where
    none_next : (t : ℕ) → t < tasks → stands_next (arrow predecessors) tasks (has s) t ≡ false
    unfolding stands_next arrow subset
    none_next t l = off _ (λ e. clash (rw same at (joins s t l (meets e))) (not-true _ (and_left (not (has s t)) _ e)))
      where
        meets : not (has s t) && all tasks (λ u. implies (has (predecessors_of predecessors t) u) (has s u)) ≡ true
            → subset (predecessors_of predecessors t) s ≡ true
        meets e =
            all_intro width _ (λ u m. implies_intro (has (predecessors_of predecessors t) u) (λ f.
            implies_elim (has (predecessors_of predecessors t) u) (has s u)
            (all_elim tasks _ (and_right (not (has s t)) _ e) u (known.named t u l m f)) f))

    size_is : size s ≡ count tasks (has s)
    unfolding size
    size_is = count_past tasks width (has s) known.few (λ i l m. off (has s i) (λ e. past (h.low i e) l))
      where
        past : {a b : ℕ} → a < b → b ≤ a → ⊥
        past p q = omega arith

    pub short_circle : ltb (size s) tasks ≡ circle (arrow predecessors) tasks
    short_circle = rw size_is (by_test (all tasks (has s)) full lacking)
      where
        full : all tasks (has s) ≡ true → ltb (count tasks (has s)) tasks ≡ circle (arrow predecessors) tasks
        full e =
            let every = all_elim tasks (has s) e in
            rw (count_every tasks (has s) every) (le-ltb tasks tasks (le_refl tasks) ∙ sym (rooted_all (arrow predecessors) tasks (has s) h.rooted every))

        lacking : all tasks (has s) ≡ false → ltb (count tasks (has s)) tasks ≡ circle (arrow predecessors) tasks
        lacking e =
            let r = any_elim tasks (λ t. not (has s t)) (sym (not_all tasks (has s)) ∙ ap not e) in
            let f = not-true _ r.2 in
            lt-ltb _ _ (count_short tasks (has s) r.0 r.1 f)
            ∙ sym (stuck_circle (arrow predecessors) tasks (has s) none_next r.0 r.1 f)
