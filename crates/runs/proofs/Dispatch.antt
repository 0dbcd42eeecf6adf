-- What the walk of an instant keeps, and what a later instant keeps of an earlier one. Assumes nothing.
use mathlib.Core.Path.{◌≡◌, refl, ap, ◌∙◌}
use mathlib.Core.Bool.{Bool, true, false, cond, and-false}
use mathlib.Core.List.{List, [], ◌∷◌, Memᴰ}
use Prim.Native.Nat.{ℕ, suc, ◌≤◌}
use native.Mathlib.Decide.{le_ind}
use borrow.Author.Tests.{eq-eqb, ne_eqb}
use Rattle.task_set.specs.Bounded.{all}
use Rattle.task_set.proofs.Truth.{clash}
use Rattle.task_set.proofs.Bounded.{all_intro, all_elim}
use Rattle.plan.specs.declared.Plan.{Plan}
use Rattle.plan.specs.declared.Constraint.{Constraint}
use Rattle.runs.specs.Running.{Entry, Notes, given, has_started, has_finished, entries, may_start, begin, dispatch, advance, step, timed, over}

module _ (p : Plan) (c : Constraint) where
  -- what every start of a listed task keeps, the walk keeps
  pub walk_keeps : (P : Notes → Type 0) (es : List Entry)
      → ((e : Entry) → Memᴰ e es → (n : Notes) → has_started n e.task ≡ false → P n → P (begin n e.task))
      → (n : Notes) → P n → P (dispatch p c es n)
  unfolding dispatch
  walk_keeps P [] f n h = h
  walk_keeps P (e ∷ rest) f n h =
      go (has_started n e.task) refl (may_start p c n e) (walk_keeps P rest (λ x m. f x (Memᴰ.tail m)))
    where
      go : (b : Bool) → has_started n e.task ≡ b → (a : Bool) → ((n : Notes) → P n → P (dispatch p c rest n))
          → P (cond b (dispatch p c rest n) (cond a (dispatch p c rest (begin n e.task)) n))
      go true q a ih = ih n h
      go false q true ih = ih (begin n e.task) (f e (Memᴰ.head refl) n q h)
      go false q false ih = h

  pub dispatch_instant : (es : List Entry) (n : Notes) → (dispatch p c es n).instant ≡ n.instant
  dispatch_instant es n = walk_keeps (λ m. m.instant ≡ n.instant) es (λ e i m q h. h) n refl

  pub dispatch_finish : (es : List Entry) (n : Notes) → (dispatch p c es n).finish ≡ n.finish
  dispatch_finish es n = walk_keeps (λ m. m.finish ≡ n.finish) es (λ e i m q h. h) n refl

  -- a start once noted stays
  pub dispatch_keeps : (es : List Entry) (n : Notes) (t : ℕ) → has_started n t ≡ true → (dispatch p c es n).start t ≡ n.start t
  dispatch_keeps es n t s =
      walk_keeps (λ m. m.start t ≡ n.start t) es
      (λ e i m q h. rw (ne_eqb e.task t (λ z. clash (ap given h ∙ s) (rw z at q))) h) n refl

  -- a second walk starts nothing
  pub dispatch_settled : (es : List Entry) (n : Notes) → dispatch p c es (dispatch p c es n) ≡ dispatch p c es n
  unfolding dispatch
  dispatch_settled [] n = refl
  dispatch_settled (e ∷ rest) n = go (has_started n e.task) refl (may_start p c n e) refl (dispatch_settled rest)
    where
      -- it passes over the first task, which has started
      past : (m : Notes) → has_started m e.task ≡ true → dispatch p c rest (dispatch p c rest m) ≡ dispatch p c rest m
          → dispatch p c (e ∷ rest) (dispatch p c rest m) ≡ dispatch p c rest m
      past m s ih = rw (dispatch_keeps rest m e.task s, s) ih

      go : (b : Bool) → has_started n e.task ≡ b → (a : Bool) → may_start p c n e ≡ a
          → ((m : Notes) → dispatch p c rest (dispatch p c rest m) ≡ dispatch p c rest m)
          → let m = cond b (dispatch p c rest n) (cond a (dispatch p c rest (begin n e.task)) n) in dispatch p c
          (e ∷ rest) m ≡ m
      go true q a f ih = past n q (ih n)
      go false q true f ih = past (begin n e.task) (rw (eq-eqb e.task e.task refl)) (ih (begin n e.task))
      go false q false f ih = rw (q, f)

  -- ---- an instant

  pub step_instant : (r : ℕ → Bool) (n : Notes) → (step p c r n).instant ≡ suc n.instant
  unfolding step
  step_instant r n = dispatch_instant (entries c) (advance r n)

  -- a finish once noted stays
  pub step_finish : (r : ℕ → Bool) (n : Notes) (t : ℕ) → has_finished n t ≡ true → has_finished (step p c r n) t ≡ true
  unfolding step
  step_finish r n t h = rw (dispatch_finish (entries c) (advance r n), h, and-false) h

  pub timed_over_stays : (d : ℕ → ℕ) (i j : ℕ) → i ≤ j → over p (timed p c d i) ≡ true → over p (timed p c d j) ≡ true
  unfolding over timed
  timed_over_stays d i j l o =
      le_ind (λ j. all p.tasks (has_finished (timed p c d j)) ≡ true) o
      (λ k m h. all_intro p.tasks _ (λ t q. step_finish _ (timed p c d k) t (all_elim p.tasks _ h t q))) j l
