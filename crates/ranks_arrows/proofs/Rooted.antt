-- Sets of tasks to which arrows lead from members alone: no arrows lead from a member back to itself. Assumes nothing.
use mathlib.Core.Path.{◌≡◌, sym, ◌∙◌, subst}
use mathlib.Core.Bool.{Bool, true, false, ◌&&◌, ◌||◌}
use mathlib.Core.Logic.{◌⊎◌, inl, inr}
use Prim.Native.Nat.{ℕ, zero, suc, ◌<◌}
use borrow.Author.Tests.{eqb-true}
use lib.Dec.{eqb}
use Rattle.task_set.proofs.Truth.{clash, by_test, off, and_left, and_right, or_left, or_cases}
use Rattle.task_set.proofs.Bounded.{any_elim, any_none}
use Rattle.ranks_arrows.specs.Arrows.{chain, circle}

pub record Rooted (arrow : ℕ → ℕ → Bool) (tasks : ℕ) (s : ℕ → Bool) : Type 0 where
  pub closed : (t u : ℕ) → t < tasks → u < tasks → arrow u t ≡ true → s t ≡ true → s u ≡ true
  pub straight : (n t : ℕ) → t < tasks → s t ≡ true → chain arrow tasks (suc n) t t ≡ false

module _ (arrow : ℕ → ℕ → Bool) (tasks : ℕ) where
  pub rooted_none : (s : ℕ → Bool) → ((t : ℕ) → s t ≡ false) → Rooted arrow tasks s
  rooted_none s none = record { closed = λ t u l m a e. absurd (clash e (none t)); straight = λ n t l e. absurd (clash e (none t)) }

  pub rooted_all : (s : ℕ → Bool) → Rooted arrow tasks s → ((t : ℕ) → t < tasks → s t ≡ true) → circle arrow tasks ≡ false
  unfolding circle
  rooted_all s h every = any_none tasks _ (λ t l. any_none tasks _ (λ n m. h.straight n t l (every t l)))

  -- one task more, to which arrows lead from members alone
  module _ (s more : ℕ → Bool) (t : ℕ) (low : t < tasks) (h : Rooted arrow tasks s)
      (met : (u : ℕ) → u < tasks → arrow u t ≡ true → s u ≡ true) (e : (i : ℕ) → more i ≡ s i || eqb t i) where
    -- what leads to it is a member
    leads_in : (n x : ℕ) → x < tasks → chain arrow tasks (suc n) x t ≡ true → s x ≡ true
    unfolding chain
    leads_in zero x l f =
        let r = any_elim tasks (λ v. arrow x v && eqb v t) f in
        met x l (subst (λ (v : ℕ). arrow x v ≡ true) (eqb-true r.0 t (and_right (arrow x r.0) _ r.2)) (and_left (arrow x r.0) _ r.2))
    leads_in (suc n) x l f =
        let r = any_elim tasks (λ v. arrow x v && chain arrow tasks (suc n) v t) f in
        h.closed r.0 x r.1 l (and_left (arrow x r.0) _ r.2)
        (leads_in n r.0 r.1 (and_right (arrow x r.0) _ r.2))

    member : (x : ℕ) → more x ≡ true → (s x ≡ true) ⊎ (t ≡ x)
    member x f = go (or_cases (s x) (eqb t x) (sym (e x) ∙ f))
      where
        go : (s x ≡ true) ⊎ (eqb t x ≡ true) → (s x ≡ true) ⊎ (t ≡ x)
        go (inl a) = inl a
        go (inr a) = inr (eqb-true t x a)

    straight_at : (n : ℕ) → chain arrow tasks (suc n) t t ≡ false
    straight_at n = by_test (s t) (h.straight n t low) (λ f. off _ (λ g. clash (leads_in n t low g) f))

    pub rooted_more : Rooted arrow tasks more
    rooted_more = record { closed = closed; straight = straight }
      where
        closed : (x u : ℕ) → x < tasks → u < tasks → arrow u x ≡ true → more x ≡ true → more u ≡ true
        closed x u l m a f = e u ∙ or_left (eqb t u) (go (member x f))
          where
            go : (s x ≡ true) ⊎ (t ≡ x) → s u ≡ true
            go (inl g) = h.closed x u l m a g
            go (inr g) = met u m (rw g a)

        straight : (n x : ℕ) → x < tasks → more x ≡ true → chain arrow tasks (suc n) x x ≡ false
        straight n x l f = go (member x f)
          where
            go : (s x ≡ true) ⊎ (t ≡ x) → chain arrow tasks (suc n) x x ≡ false
            go (inl g) = h.straight n x l g
            go (inr g) = subst (λ (y : ℕ). chain arrow tasks (suc n) y y ≡ false) g (straight_at n)
