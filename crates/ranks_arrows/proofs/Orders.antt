-- A legal order exists exactly if no arrows lead back. Assumes nothing.
use mathlib.Core.Path.{◌≡◌, refl, sym, ap, ◌∙◌, subst}
use mathlib.Core.Bool.{Bool, true, false, ◌&&◌, ◌||◌, not}
use Prim.Native.Nat.{ℕ, zero, suc, ◌+◌, ◌-◌, ◌≤◌, ◌<◌}
use native.Mathlib.Nat.{le_refl, le_of_lt, le_of_suc-le, lt_trans, lt_irrefl, lt_of_le_of_lt, lt-suc_self, suc-add, zero-add}
use native.Mathlib.Omega.{arith}
use borrow.Author.Tests.{eq-eqb, eqb-true, ltb-true, ltb-false, not-true}
use lib.Dec.{eqb, ltb}
use Rattle.task_set.specs.Bounded.{all, any, count, first, implies}
use Rattle.task_set.proofs.Truth.{clash, by_test, off, and_left, and_right, and_both, or_left, or_right, implies_elim}
use Rattle.task_set.proofs.Bounded.{all_elim, any_intro, any_elim, any_none, any_off, not_all, count_none, count_more, count_every}
use Rattle.task_set.proofs.Search.{first_is, first_any}
use Rattle.task_set.proofs.Cover.{cover}
use Rattle.ranks_arrows.specs.Arrows.{chain, circle}

-- an order of the tasks: each stands at one position, and every arrow leads to a later one
pub record Legal (arrow : ℕ → ℕ → Bool) (tasks : ℕ) (order : ℕ → ℕ) : Type 0 where
  pub task : (i : ℕ) → i < tasks → order i < tasks
  pub once : (i j : ℕ) → i < tasks → j < tasks → order i ≡ order j → i ≡ j
  pub later : (i j : ℕ) → i < tasks → j < tasks → arrow (order i) (order j) ≡ true → i < j

-- ---- places in an order

-- the position of t, and `tasks` where it has none
unfoldable pub place : ℕ → (ℕ → ℕ) → ℕ → ℕ
place tasks order t = first tasks (λ i. eqb (order i) t)

module _ {arrow : ℕ → ℕ → Bool} {tasks : ℕ} {order : ℕ → ℕ} (legal : Legal arrow tasks order) where
  other : (i : ℕ) → i < tasks → any i (λ j. eqb (order j) (order i)) ≡ false
  other i l = any_none i _ (λ j m. off _ (λ e. apart m (legal.once j i (lt_trans m l) l (eqb-true _ _ e))))
    where
      apart : {a b : ℕ} → a < b → a ≡ b → ⊥
      apart m e = omega arith

  pub place_low : (t : ℕ) → t < tasks → place tasks order t < tasks
  unfolding place
  place_low t l =
      let r = cover tasks order legal.task other t l in
      ltb-true _ _ (first_any tasks (λ i. eqb (order i) t) ∙ any_intro tasks _ r.0 r.1 r.2)

  at_place : (t : ℕ) → t < tasks → order (place tasks order t) ≡ t
  unfolding place
  at_place t l = eqb-true _ _ ((first_is tasks (λ i. eqb (order i) t)).passes (place_low t l))

  -- an arrow leads to a later place
  pub place_later : (t u : ℕ) → t < tasks → u < tasks → arrow t u ≡ true → place tasks order t < place tasks order u
  place_later t u l m e =
      legal.later (place tasks order t) (place tasks order u) (place_low t l) (place_low u m)
      (rw (at_place t l, at_place u m) e)

  -- and so does a chain
  chain_later : (n t u : ℕ) → t < tasks → u < tasks → chain arrow tasks (suc n) t u ≡ true
      → place tasks order t < place tasks order u
  unfolding chain
  chain_later zero t u l m e =
      let r = any_elim tasks (λ v. arrow t v && eqb v u) e in
      subst (λ (x : ℕ). place tasks order t < place tasks order x) (eqb-true r.0 u (and_right (arrow t r.0) _ r.2))
      (place_later t r.0 l r.1 (and_left (arrow t r.0) _ r.2))
  chain_later (suc n) t u l m e =
      let r = any_elim tasks (λ v. arrow t v && chain arrow tasks (suc n) v u) e in
      lt_trans (place_later t r.0 l r.1 (and_left (arrow t r.0) _ r.2))
      (chain_later n r.0 u r.1 m (and_right (arrow t r.0) _ r.2))

  -- no arrows, however many, lead from a task back to itself
  pub never_back : (n t : ℕ) → t < tasks → chain arrow tasks (suc n) t t ≡ false
  never_back n t l = off _ (λ e. lt_irrefl _ (chain_later n t t l l e))

  pub legal_straight : circle arrow tasks ≡ false
  unfolding circle
  legal_straight = any_none tasks _ (λ t l. any_none tasks _ (λ n m. never_back n t l))

-- ---- n + 1 numbers below n: one repeats

repeat : (n : ℕ) (g : ℕ → ℕ) → ((i : ℕ) → g i < n) → (i : ℕ) × (j : ℕ) × (i < j) × (j ≤ n) × (g i ≡ g j)
repeat n g low = by_test (any n twice) early late
  where
    twice : ℕ → Bool
    twice i = any i (λ j. eqb (g j) (g i))

    early : any n twice ≡ true → (i : ℕ) × (j : ℕ) × (i < j) × (j ≤ n) × (g i ≡ g j)
    early e =
        let r = any_elim n twice e in
        let q = any_elim r.0 (λ j. eqb (g j) (g r.0)) r.2 in
        (q.0, r.0, q.1, le_of_lt r.1, eqb-true _ _ q.2)

    late : any n twice ≡ false → (i : ℕ) × (j : ℕ) × (i < j) × (j ≤ n) × (g i ≡ g j)
    late e =
        let r = cover n g (λ i l. low i) (any_off n twice e) (g n) (low n) in
        (r.0, n, r.1, le_refl n, eqb-true _ _ r.2)

module _ (arrow : ℕ → ℕ → Bool) (tasks : ℕ) where
  -- t is not in s, and every task from which an arrow leads to it is
  unfoldable pub stands_next : (ℕ → Bool) → ℕ → Bool
  stands_next s t = not (s t) && all tasks (λ u. implies (arrow u t) (s u))

  -- ---- where no task stands next to a set that lacks some task, arrows lead back

  module _ (s : ℕ → Bool) (none : (t : ℕ) → t < tasks → stands_next s t ≡ false) where
    abbrev Missing : ℕ → Type 0
    Missing t = (t < tasks) × (s t ≡ false)

    -- the first task that is not in s and from which an arrow leads to t
    abbrev awaited : ℕ → ℕ → Bool
    awaited t u = arrow u t && not (s u)

    back : ℕ → ℕ
    back t = first tasks (awaited t)

    outside : (a b : Bool) → not (implies a b) ≡ a && not b
    outside true b = refl
    outside false b = refl

    some_awaited : (t : ℕ) → Missing t → any tasks (awaited t) ≡ true
    unfolding stands_next
    some_awaited t h =
        by_test (all tasks (λ u. implies (arrow u t) (s u)))
        (λ e. absurd (clash (and_both (ap not h.1) e) (none t h.0)))
        (λ e.
        let r = any_elim tasks (λ u. not (implies (arrow u t) (s u))) (sym (not_all tasks (λ u. implies (arrow u t) (s u))) ∙ ap not e) in
        any_intro tasks (awaited t) r.0 r.1 (sym (outside (arrow r.0 t) (s r.0)) ∙ r.2))

    back_low : (t : ℕ) → Missing t → back t < tasks
    unfolding back
    back_low t h = ltb-true _ _ (first_any tasks (awaited t) ∙ some_awaited t h)

    back_awaited : (t : ℕ) → Missing t → awaited t (back t) ≡ true
    unfolding back
    back_awaited t h = (first_is tasks (awaited t)).passes (back_low t h)

    back_missing : (t : ℕ) → Missing t → Missing (back t)
    back_missing t h = (back_low t h, not-true _ (and_right (arrow (back t) t) _ (back_awaited t h)))

    -- n steps back
    steps : ℕ → ℕ → ℕ
    steps zero t = t
    steps (suc n) t = back (steps n t)

    steps_missing : (n t : ℕ) → Missing t → Missing (steps n t)
    unfolding steps
    steps_missing zero t h = h
    steps_missing (suc n) t h = back_missing (steps n t) (steps_missing n t h)

    steps_plus : (m i t : ℕ) → steps (m + i) t ≡ steps m (steps i t)
    unfolding steps
    steps_plus zero i t = ap (λ (n : ℕ). steps n t) (zero-add i)
    steps_plus (suc m) i t = ap (λ (n : ℕ). steps n t) (suc-add m i) ∙ ap back (steps_plus m i t)

    -- n steps back are a chain of n arrows
    steps_chain : (n t : ℕ) → Missing t → chain arrow tasks n (steps n t) t ≡ true
    unfolding steps chain
    steps_chain zero t h = eq-eqb t t refl
    steps_chain (suc n) t h =
        let before = steps_missing n t h in
        any_intro tasks (λ v. arrow (back (steps n t)) v && chain arrow tasks n v t) (steps n t) before.0
        (and_both (and_left (arrow (back (steps n t)) (steps n t)) _ (back_awaited (steps n t) before)) (steps_chain n t h))

    pub stuck_circle : (t : ℕ) → t < tasks → s t ≡ false → circle arrow tasks ≡ true
    unfolding circle
    stuck_circle t l e = close (repeat tasks (λ n. steps n t) (λ n. (steps_missing n t (l, e)).0))
      where
        close : (i : ℕ) × (j : ℕ) × (i < j) × (j ≤ tasks) × (steps i t ≡ steps j t)
            → any tasks (λ t. any tasks (λ n. chain arrow tasks (suc n) t t)) ≡ true
        close r =
            any_intro tasks _ x (steps_missing r.0 t (l, e)).0
            (any_intro tasks (λ n. chain arrow tasks (suc n) x x) n (omega (arith, r.2, r.3))
            (subst (λ (y : ℕ). chain arrow tasks (suc n) y x ≡ true)
            (sym (steps_plus (suc n) r.0 t) ∙ ap (λ (k : ℕ). steps k t) whole ∙ sym r.4)
            (steps_chain (suc n) x (steps_missing r.0 t (l, e)))))
          where
            x : ℕ
            x = steps r.0 t

            n : ℕ
            n = r.1 - suc r.0

            whole : suc n + r.0 ≡ r.1
            whole = omega (arith, r.2)

  -- ---- the order that takes the lowest task that stands next

  -- the tasks at the first i positions
  unfoldable standing : ℕ → ℕ → Bool
  standing zero t = false
  standing (suc i) t = standing i t || eqb (first tasks (stands_next (standing i))) t

  pub lowest_first : ℕ → ℕ
  lowest_first i = first tasks (stands_next (standing i))

  stands_earlier : (i j : ℕ) → j < i → standing i (lowest_first j) ≡ true
  unfolding standing lowest_first
  stands_earlier zero j l = absurd (omega arith)
  stands_earlier (suc i) j l =
      by_test (ltb j i) (λ e. or_left _ (stands_earlier i j (ltb-true j i e)))
      (λ e. let q : j ≡ i = omega (arith, ltb-false j i e) in or_right (standing i (lowest_first j)) (eq-eqb _ _ (ap lowest_first (sym q))))

  from_position : (i t : ℕ) → standing i t ≡ true → (j : ℕ) × (j < i) × (lowest_first j ≡ t)
  unfolding standing lowest_first
  from_position zero t e = absurd (clash e refl)
  from_position (suc i) t e =
      by_test (standing i t) (λ f. let r = from_position i t f in (r.0, lt_trans r.1 (lt-suc_self i), r.2))
      (λ f. (i, lt-suc_self i, eqb-true _ t (rw f at e)))

  module _ (straight : circle arrow tasks ≡ false) where
    -- a task is left while there are positions, and the lowest that stands next is one
    filled : (i : ℕ) → count tasks (standing i) ≡ i → i < tasks → lowest_first i < tasks
    unfolding lowest_first
    filled i e l =
        by_test (ltb (first tasks (stands_next (standing i))) tasks) (ltb-true _ _)
        (λ f. absurd (by_test (all tasks (standing i)) full (λ g. stuck g (any_off tasks _ (sym (first_any tasks _) ∙ f)))))
      where
        full : all tasks (standing i) ≡ true → ⊥
        full g = omega (arith, e, count_every tasks (standing i) (all_elim tasks (standing i) g))

        stuck : all tasks (standing i) ≡ false → ((t : ℕ) → t < tasks → stands_next (standing i) t ≡ false) → ⊥
        stuck g none =
            let r = any_elim tasks (λ t. not (standing i t)) (sym (not_all tasks (standing i)) ∙ ap not g) in
            clash (stuck_circle (standing i) none r.0 r.1 (not-true _ r.2)) straight

    next_stands : (i : ℕ) → lowest_first i < tasks → stands_next (standing i) (lowest_first i) ≡ true
    unfolding lowest_first
    next_stands i = (first_is tasks (stands_next (standing i))).passes

    is_new : (i : ℕ) → lowest_first i < tasks → standing i (lowest_first i) ≡ false
    unfolding stands_next
    is_new i l = not-true _ (and_left (not (standing i (lowest_first i))) _ (next_stands i l))

    -- as many tasks stand at the first positions as there are positions
    counted : (i : ℕ) → i ≤ tasks → count tasks (standing i) ≡ i
    unfolding standing lowest_first
    counted zero l = count_none tasks (standing zero) (λ t m. refl)
    counted (suc i) l =
        let e = counted i (le_of_suc-le l) in
        let m = filled i e l in
        count_more tasks (standing i) (lowest_first i) m (is_new i m) ∙ ap suc e

    task_low : (i : ℕ) → i < tasks → lowest_first i < tasks
    task_low i l = filled i (counted i (le_of_lt l)) l

    distinct : (i j : ℕ) → i < j → j < tasks → lowest_first i ≡ lowest_first j → ⊥
    distinct i j l m e =
        clash (subst (λ (t : ℕ). standing j t ≡ true) e (stands_earlier j i l)) (is_new j (task_low j m))

    same_position : (i j : ℕ) → i < tasks → j < tasks → lowest_first i ≡ lowest_first j → i ≡ j
    same_position i j l m e =
        by_test (ltb i j) (λ f. absurd (distinct i j (ltb-true i j f) m e))
        (λ f. by_test (ltb j i) (λ g. absurd (distinct j i (ltb-true j i g) l (sym e)))
        (λ g. omega (arith, ltb-false i j f, ltb-false j i g)))

    pub lowest_first_legal : Legal arrow tasks lowest_first
    unfolding stands_next
    lowest_first_legal =
        record {
          task = task_low;
          once = same_position;
          later = λ i j l m e.
              let t = lowest_first i in
              let r = from_position j t
              (implies_elim (arrow t (lowest_first j)) (standing j t)
              (all_elim tasks (λ u. implies (arrow u (lowest_first j)) (standing j u))
              (and_right (not (standing j (lowest_first j))) _ (next_stands j (task_low j m))) t (task_low i l)) e) in
              lt_of_le_of_lt (same_le (same_position r.0 i (lt_trans r.1 m) l r.2)) r.1;
        }
      where
        same_le : {a b : ℕ} → a ≡ b → b ≤ a
        same_le e = omega arith
