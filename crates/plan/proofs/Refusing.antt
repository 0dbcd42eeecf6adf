-- Refusals that are tried one after the other. Assumes nothing.
use mathlib.Core.Path.{◌≡◌, refl, sym}
use mathlib.Core.Bool.{Bool, true, false, cond}
use Prim.Native.Nat.{ℕ, ◌≤◌, ◌<◌}
use native.Mathlib.Omega.{arith}
use borrow.Author.Tests.{eqb-true, lt-ltb, le-ltb, ltb-false}
use lib.Dec.{eqb, ltb}
use Rattle.std.specs.Prelude.{Ok, Err, IfOk, IfErr, ⊤}
use Rattle.std.proofs.lemmas.Result.{IfOk-at_ok, IfErr-at_err}
use Rattle.task_set.specs.Bounded.{first}
use Rattle.task_set.proofs.Search.{first_none}
use Rattle.plan.specs.declared.Verdict.{Verdict}
use Rattle.plan.specs.Refusals.{refused, no_refusal, unless_at, as_result}

-- as a search finds the first position at fault
pub unless_by : (number n : ℕ) (fault : ℕ → Bool) (rest : Verdict) {a : ℕ} → a ≡ first n fault
    → cond (ltb a n) (refused number a) rest ≡ unless_at number n fault rest
unfolding unless_at
unless_by number n fault rest e = rw e

pub unless_found : (number n : ℕ) (fault : ℕ → Bool) (rest : Verdict) {a : ℕ} → a ≡ first n fault → a < n
    → refused number a ≡ unless_at number n fault rest
unless_found number n fault rest e l = rw (lt-ltb _ _ l) at (unless_by number n fault rest e)

pub unless_none : (number n : ℕ) (fault : ℕ → Bool) (rest : Verdict) {a : ℕ} → a ≡ first n fault → n ≤ a
    → rest ≡ unless_at number n fault rest
unless_none number n fault rest e l = rw (le-ltb _ _ l) at (unless_by number n fault rest e)

-- where nothing is refused, no position is at fault, and what follows refuses nothing
pub unless_passed : (number n : ℕ) (fault : ℕ → Bool) (rest : Verdict) → 0 < number → (unless_at number n fault rest).number ≡ 0
    → ((i : ℕ) → i < n → fault i ≡ false) × (rest.number ≡ 0)
unfolding unless_at
unless_passed number n fault rest l e = go (ltb (first n fault) n) refl e
  where
    go : (b : Bool) → ltb (first n fault) n ≡ b → (cond b (refused number (first n fault)) rest).number ≡ 0
        → ((i : ℕ) → i < n → fault i ≡ false) × (rest.number ≡ 0)
    go true q e = absurd (omega arith)
    go false q e = (first_none n fault (ltb-false _ _ q), e)

-- the same of one test
pub cond_passed : (number place : ℕ) (b : Bool) (rest : Verdict) → 0 < number → (cond b (refused number place) rest).number ≡ 0
    → (b ≡ false) × (rest.number ≡ 0)
cond_passed number place true rest l e = absurd (omega arith)
cond_passed number place false rest l e = (refl, e)

-- a number that neither has
pub unless_other : (number n : ℕ) (fault : ℕ → Bool) (rest : Verdict) (x : ℕ) → (number ≡ x → ⊥) → (rest.number ≡ x → ⊥)
    → (unless_at number n fault rest).number ≡ x → ⊥
unfolding unless_at
unless_other number n fault rest x f g = go (ltb (first n fault) n)
  where
    go : (b : Bool) → (cond b (refused number (first n fault)) rest).number ≡ x → ⊥
    go true = f
    go false = g

-- ---- a verdict as a result

-- what a function that refuses has to show
pub err_is_result : {number place : ℕ} {r v : Verdict} → eqb number 0 ≡ false → r ≡ refused number place → refused number place ≡ v
    → Err r ≡ as_result v
unfolding as_result
err_is_result {number} {place} z e f = rw (sym f, z, e) refl

pub ok_is_result : {v : Verdict} → no_refusal ≡ v → Ok (tt {0}) ≡ as_result v
unfolding as_result
ok_is_result f = rw (sym f) refl

-- what its caller learns
pub as_ok : (v : Verdict) {u : ⊤} → Ok u ≡ as_result v → v.number ≡ 0
unfolding as_result
as_ok v {u} e = IfOk-at_ok (λ _. v.number ≡ 0) (sym e) (go (eqb v.number 0) refl)
  where
    go : (b : Bool) → eqb v.number 0 ≡ b → IfOk (cond b (Ok (tt {0})) (Err v)) (λ _. v.number ≡ 0)
    go true f = eqb-true v.number 0 f
    go false f = tt

pub as_err : (v : Verdict) {w : Verdict} → Err w ≡ as_result v → (w ≡ v) × (eqb v.number 0 ≡ false)
unfolding as_result
as_err v {w} e = IfErr-at_err (λ w. (w ≡ v) × (eqb v.number 0 ≡ false)) (sym e) (go (eqb v.number 0) refl)
  where
    go : (b : Bool) → eqb v.number 0 ≡ b → IfErr (cond b (Ok (tt {0})) (Err v)) (λ w. (w ≡ v) × (eqb v.number 0 ≡ false))
    go true f = tt
    go false f = (refl, f)
