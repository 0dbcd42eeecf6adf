-- The finishes with the reported tasks stamped, as the loop goes: the lowest task left is stamped and removed. Assumes nothing.
use mathlib.Core.Path.{◌≡◌, refl, sym, ◌∙◌}
use mathlib.Core.Bool.{and-true, and-false}
use mathlib.Core.List.{List}
use Prim.Native.Nat.{ℕ, ◌^◌, ◌<◌}
use native.Mathlib.Omega.{arith}
use borrow.Author.Tests.{eqb-true, eqb-false}
use lib.Dec.{eqb}
use lib.ListN.{get_or, length, set, length-set}
use lib.Seq.{ext_get_or, get_or-set_same, get_or-set_other}
use Rattle.task_set.specs.Bounded.{tabulate}
use Rattle.task_set.specs.Sets.{width, has, remove, lowest}
use Rattle.task_set.proofs.Truth.{by_test}
use Rattle.task_set.proofs.Members.{has_none, has_remove, lowest_low, lowest_member}
use Rattle.task_set.proofs.Tables.{length_tabulate, get_d_tabulate, tabulate_cong}
use Rattle.plan.specs.Rules.{most_tasks}
use Rattle.live_report.specs.Steps.{stamp_at}

-- a table of values that a list has is the list
pub table_list : (f : ℕ → ℕ) (l : List ℕ) → length l ≡ most_tasks → ((t : ℕ) → f t ≡ get_or l t 0) → tabulate most_tasks f ≡ l
table_list f l e h =
    ext_get_or 0 (tabulate most_tasks f) l (length_tabulate most_tasks f ∙ sym e)
    (λ i m. get_d_tabulate most_tasks f i 0 (rw (length_tabulate most_tasks f) at m) ∙ h i)

-- what is stamped and what is left make the whole
pub record Stamped (whole : List ℕ) (instant : ℕ) (stamps : List ℕ) (left : ℕ) : Type 0 where
  pub long : length stamps ≡ most_tasks
  pub makes : tabulate most_tasks (stamp_at stamps left instant) ≡ whole

-- none is left
pub stamped_all : {whole : List ℕ} (instant : ℕ) {stamps : List ℕ} {left : ℕ} → left ≡ 0
    → Stamped whole instant stamps left → stamps ≡ whole
unfolding stamp_at
stamped_all instant {stamps} e s = sym (table_list _ stamps s.long (λ t. rw (e, has_none t) refl)) ∙ s.makes

module _ (left : ℕ) (fits : left < 2 ^ width) (some : left ≡ 0 → ⊥) where
  abbrev t : ℕ
  t = lowest left

  low : t < width
  low = lowest_low left fits some

  -- the lowest task left is stamped: the others are as they were
  stamp_one : (stamps : List ℕ) (instant u : ℕ) → length stamps ≡ most_tasks
      → stamp_at (set stamps t instant) (remove left t) instant u ≡ stamp_at stamps left instant u
  unfolding stamp_at
  stamp_one stamps instant u l =
      rw (has_remove left t u low)
      (by_test (eqb t u)
      (λ e. rw (e, and-false (has left u), ← eqb-true t u e, lowest_member left fits some)
      (get_or-set_same stamps t instant 0 (omega (arith, low))))
      (λ e. rw (e, and-true (has left u), get_or-set_other stamps t u instant 0 (λ q. eqb-false t u e (sym q))) refl))

  pub stamped_more : {whole : List ℕ} (instant : ℕ) {stamps : List ℕ} → Stamped whole instant stamps left
      → Stamped whole instant (set stamps t instant) (remove left t)
  stamped_more instant {stamps} s =
      record {
        long = length-set stamps t instant ∙ s.long;
        makes = tabulate_cong most_tasks _ _ (λ u l. stamp_one stamps instant u s.long) ∙ s.makes;
      }
