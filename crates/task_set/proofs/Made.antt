-- The array of what a function gives of each index. Assumes nothing.
use mathlib.Core.Path.{◌≡◌, sym, ◌∙◌, subst}
use mathlib.Core.List.{List}
use Prim.Native.Nat.{ℕ, zero, suc, ◌+◌, ◌<◌}
use native.Mathlib.Omega.{arith}
use denote.Param.Members.{Mut, Called}
use lib.ListN.{get_or}
use Rattle.std.specs.Array.{IsFromFnResult, IsFromFnResultFrom}
use Rattle.task_set.specs.Bounded.{tabulate}
use Rattle.task_set.proofs.Tables.{tabulate_cong, tabulate_get_d}

-- a call at i gives h i, and changes nothing
module _ {F B : Type 0} (g : Mut F (ℕ × Unit {0}) B) (h : ℕ → B) (e : B) (f : F) (ys : List B)
    (gives : (q : F) (i : ℕ) (y : B) → Called g f (i, tt) y q → (q ≡ f) × (y ≡ h i)) where
  from : (i n : ℕ) → IsFromFnResultFrom g f ys i n → (k : ℕ) → k < n → get_or ys (i + k) e ≡ h (i + k)
  from i zero m k l = absurd (omega arith)
  from i (suc n) m zero l =
      subst (λ (j : ℕ). get_or ys j e ≡ h j) {x = i} (omega arith) (m.2.1 e ∙ (gives m.0 i m.1 m.3).1)
  from i (suc n) m (suc k) l =
      subst (λ (j : ℕ). get_or ys j e ≡ h j) {x = i + 1 + k} (omega arith)
      (from (i + 1) n (subst (λ (q : F). IsFromFnResultFrom g q ys (i + 1) n) (gives m.0 i m.1 m.3).0 m.4) k (omega arith))

  pub made : {n : ℕ} → IsFromFnResult g f ys n → ys ≡ tabulate n h
  made {n} m =
      sym (tabulate_get_d n ys e m.long)
      ∙ tabulate_cong n _ h (λ i l. subst (λ (j : ℕ). get_or ys j e ≡ h j) {x = 0 + i} (omega arith) (from 0 n m.each i l))
