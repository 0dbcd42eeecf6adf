-- The times of the chosen types, as a loop over the positions of the order fills them in. Assumes nothing.
use mathlib.Core.Path.{◌≡◌, ◌∙◌}
use mathlib.Core.List.{List}
use Prim.Native.Nat.{ℕ, ◌+◌, ◌≤◌, ◌<◌}
use native.Mathlib.Nat.{not-suc-le-zero, lt_of_lt_of_le, lt_trans}
use native.Mathlib.Omega.{arith}
use borrow.Author.Count.{below_more}
use lib.ListN.{set, replicate, length-set, length-replicate}
use lib.Seq.{get_or-set_same, get_or-set_other}
use Rattle.plan.specs.Rules.{most_tasks, time_of}
use Rattle.plan.specs.Refusals.{entry_at}
use Rattle.plan.specs.Steps.{Positions}
use Rattle.simulation_times.specs.Times.{time_in, ChosenTimes}

pub chosen_none : {times order chosen : List ℕ} → ChosenTimes times order chosen 0 (replicate most_tasks 0)
chosen_none = record { whole = length-replicate {A = ℕ} most_tasks 0; at_position = λ i l. absurd (not-suc-le-zero l) }

pub chosen_more : {times order chosen by_task : List ℕ} {n k v : ℕ} → Positions order chosen n → k < n
    → ChosenTimes times order chosen k by_task
    → v ≡ time_of times (entry_at order k) (entry_at chosen k)
    → ChosenTimes times order chosen (k + 1) (set by_task (entry_at order k) v)
chosen_more {times} {order} {chosen} {by_task} {n} {k} {v} o l h e =
    record {
      whole = length-set by_task (entry_at order k) v ∙ h.whole;
      at_position = below_more (λ (i : ℕ). time_in written (entry_at order i)
          ≡ time_of times (entry_at order i) (entry_at chosen i)) k before here;
    }
  where
    written : List ℕ
    written = set by_task (entry_at order k) v

    here : time_in written (entry_at order k) ≡ time_of times (entry_at order k) (entry_at chosen k)
    here = get_or-set_same by_task (entry_at order k) v 0 (rw h.whole (lt_of_lt_of_le (o.task k l) o.few)) ∙ e

    before : (i : ℕ) → i < k → time_in written (entry_at order i) ≡ time_of times (entry_at order i) (entry_at chosen i)
    before i m =
        get_or-set_other by_task (entry_at order k) (entry_at order i) v 0 (λ q. omega (arith, o.once i k (lt_trans m l) l q))
        ∙ h.at_position i m

pub chosen_end : {times order chosen by_task : List ℕ} {n k : ℕ} → ChosenTimes times order chosen k by_task → n ≤ k
    → ChosenTimes times order chosen n by_task
chosen_end h l = record { whole = h.whole; at_position = λ i m. h.at_position i (lt_of_lt_of_le m l) }
