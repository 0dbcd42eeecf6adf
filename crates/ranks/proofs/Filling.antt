-- The loop that fills the table: the ranks of the tasks passed are in it. Assumes nothing.
use mathlib.Core.Path.{◌≡◌, refl, sym, ◌∙◌}
use mathlib.Core.Bool.{cond}
use mathlib.Core.List.{List}
use mathlib.Core.Logic.{inl, ⊎_elim, ∥∥₁_elim}
use Prim.Native.Nat.{ℕ, zero, suc, ◌+◌, ◌≤◌, ◌<◌}
use native.Mathlib.Nat.{lt_of_lt_of_le, ℕ_set}
use native.Mathlib.Omega.{arith}
use borrow.Author.Count.{below_more}
use borrow.Author.Tests.{ltb-true, ltb-false}
use lib.Dec.{ltb}
use lib.ListN.{get_or, replicate, length-replicate}
use lib.Seq.{ext_get_or}
use Rattle.task_set.specs.Bounded.{tabulate}
use Rattle.task_set.proofs.Truth.{by_test}
use Rattle.task_set.proofs.Tables.{length_tabulate, get_d_tabulate}
use Rattle.plan.specs.Rules.{most_tasks}
use Rattle.ranks.specs.Ranks.{rank_of}
use Rattle.ranks.specs.Steps.{Noted, RankFound}
use Rattle.ranks.proofs.Found.{noted_long, known_more}

pub record KnownBelow (wcet predecessors : List ℕ) (tasks t : ℕ) (table : List ℕ) : Type 0 where
  pub within : t ≤ tasks
  pub known : (u : ℕ) → u < t → get_or table u 0 ≡ rank_of wcet predecessors tasks u

zeros : (n u : ℕ) → get_or {A = ℕ} (replicate n 0) u 0 ≡ 0
zeros zero u = refl
zeros (suc n) zero = refl
zeros (suc n) (suc u) = zeros n u

module _ {wcet predecessors : List ℕ} {tasks : ℕ} where
  -- no rank is known
  pub noted_none : ∥ Noted wcet predecessors tasks (replicate most_tasks 0) ∥₁
  noted_none = ∣ record { long = length-replicate {A = ℕ} most_tasks 0; each = λ u. inl (zeros most_tasks u) } ∣₁

  pub known_next : {t r : ℕ} {table later : List ℕ} → KnownBelow wcet predecessors tasks t table → t < tasks
      → RankFound wcet predecessors tasks t table later r → KnownBelow wcet predecessors tasks (t + 1) later
  known_next {t} {r} {table} {later} h l f =
      record {
        within = omega arith;
        known = below_more (λ (u : ℕ). get_or later u 0 ≡ rank_of wcet predecessors tasks u) t
            (λ u m. known_more u f.grown (h.known u m)) f.noted;
      }

  pub known_all : {t : ℕ} {table : List ℕ} → ∥ Noted wcet predecessors tasks table ∥₁
      → KnownBelow wcet predecessors tasks t table → tasks ≤ t
      → table ≡ tabulate most_tasks (λ t. cond (ltb t tasks) (rank_of wcet predecessors tasks t) 0)
  known_all {t} {table} m h l =
      ext_get_or 0 table (tabulate most_tasks entry) (noted_long m ∙ sym (length_tabulate most_tasks entry))
      (λ u k. each u ∙ sym (get_d_tabulate most_tasks entry u 0 (rw (noted_long m) at k)))
    where
      entry : ℕ → ℕ
      entry t = cond (ltb t tasks) (rank_of wcet predecessors tasks t) 0

      each : (u : ℕ) → get_or table u 0 ≡ cond (ltb u tasks) (rank_of wcet predecessors tasks u) 0
      each u =
          by_test (ltb u tasks) (λ e. rw e (h.known u (lt_of_lt_of_le (ltb-true u tasks e) l)))
          (λ e. rw e (∥∥₁_elim m (ℕ_set _ _) (λ f. ⊎_elim (λ d. d) (λ d. absurd (omega (arith, d.0, ltb-false u tasks e))) (f.each u))))
