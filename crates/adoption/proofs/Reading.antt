-- The first records of a list, with blank ones behind them, have the columns of the list. Assumes nothing.
use mathlib.Core.Path.{◌≡◌, sym, ap, ap₂, ◌∙◌}
use mathlib.Core.List.{List, ◌++◌}
use Prim.Native.Nat.{ℕ, ◌+◌, ◌-◌, ◌<◌}
use native.Mathlib.Omega.{arith}
use borrow.Author.Tests.{ltb-true, ltb-false}
use lib.Dec.{ltb}
use lib.ListN.{length, get_or, replicate, take, drop}
use Rattle.std.specs.Prelude.{min}
use Rattle.std.proofs.Math.ListN.{get_or-append}
use Rattle.std.proofs.lemmas.List.{get_or-append_right, get_or-take, get_or-drop, get_or-replicate, get_or_past, length-take-le}
use Rattle.task_set.proofs.Truth.{by_test}
use Rattle.task_set.proofs.Tables.{tabulate_cong}
use Rattle.plan.specs.Rules.{most_tasks}
use Rattle.adoption_theory.specs.declared.Record.{Record}
use Rattle.adoption_theory.specs.Schedules.{schedule_of, no_record, column, listed}

-- a record of zeros is none
pub zeros : (r : Record) → r.task ≡ 0 → r.unit_type ≡ 0 → r.start ≡ 0 → r.finish ≡ 0 → r ≡ no_record
zeros r a b c d = ap₂ (record_of r.start r.finish) a b ∙ ap₂ (λ (start finish : ℕ). record_of start finish 0 0) c d
  where
    record_of : ℕ → ℕ → ℕ → ℕ → Record
    record_of start finish task unit_type = record { task = task; unit_type = unit_type; start = start; finish = finish }

module _ (records : List Record) {n : ℕ} {xs : List Record} {none : Record} (few : n ≡ min (length records) most_tasks)
    (e : xs ≡ take n records) (blank : none ≡ no_record) where
  abbrev read : List Record
  read = xs ++ drop n (replicate most_tasks none)

  long : length xs ≡ n
  long = ap length e ∙ length-take-le n records (omega (arith, few))

  at : (k : ℕ) → k < most_tasks → get_or read k no_record ≡ get_or records k no_record
  at k l =
      by_test (ltb k n)
      (λ t. get_or-append xs _ no_record k (omega (arith, long, ltb-true k n t))
      ∙ rw e (get_or-take n records k no_record (ltb-true k n t)))
      (λ t. let m = ltb-false k n t in
      get_or-append_right xs _ n k no_record long m ∙ get_or-drop n _ (k - n) no_record
      ∙ get_or-replicate most_tasks (n + (k - n)) none no_record (omega arith) ∙ blank
      ∙ sym (get_or_past records k no_record (omega (arith, few))))

  read_column : (field : Record → ℕ) → column field read ≡ column field records
  unfolding column
  read_column field = tabulate_cong most_tasks _ _ (λ k l. ap field (at k l))

  pub read_all :
      schedule_of (length records) (column (λ r. r.task) read) (column (λ r. r.unit_type) read) (column (λ r. r.start) read)
      (column (λ r. r.finish) read) ≡ listed records
  unfolding listed
  read_all = cc (read_column (λ r. r.task), read_column (λ r. r.unit_type), read_column (λ r. r.start), read_column (λ r. r.finish))
