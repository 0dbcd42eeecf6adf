-- What a report is refused with, from the tests one after the other. Assumes nothing.
use mathlib.Core.Path.{◌≡◌, refl, sym, ap, ◌∙◌}
use mathlib.Core.Bool.{Bool, false, cond}
use Prim.Native.Nat.{ℕ}
use lib.Bits.{bit_and}
use lib.Dec.{eqb}
use Rattle.std.proofs.Common.{Result, Ok, Err}
use Rattle.task_set.specs.Sets.{lowest, without}
use Rattle.task_set.proofs.Truth.{by_test}
use Rattle.plan.specs.declared.Verdict.{Verdict}
use Rattle.plan.specs.Refusals.{refused, as_result}
use Rattle.live_marks.specs.declared.Marks.{Marks}
use Rattle.live_report.specs.Steps.{verdict_by}

-- refused at the lowest member of a faulty set
abbrev Asked : Type 0
Asked = Result (Unit {0}) Verdict

abbrev none_of : ℕ → ℕ → Asked
none_of number faulty = cond (eqb faulty 0) (Ok tt) (Err (refused number (lowest faulty)))

-- asked of a set that is equal by value
pub none_of_at : (number n : ℕ) {o : ℕ} {w : Asked} → w ≡ none_of number n → n ≡ o → w ≡ none_of number o
none_of_at number n h e = h ∙ ap (none_of number) e

-- the tests where not every task is finished: r are the running tasks, o the overrunning ones, i those reported that do not run
module _ (m : Marks) (over : Bool) (finished report : ℕ) {r o i : ℕ} (off : over ≡ false) (e : r ≡ without m.started finished)
    (f : o ≡ without (bit_and m.due r) report) (g : i ≡ without report r) {w : Asked} (h : w ≡ none_of 16 o) where
  pub overrun : {v : Verdict} → w ≡ Err v → Err v ≡ as_result (verdict_by m over finished report)
  unfolding verdict_by as_result
  overrun {v} k =
      by_test (eqb o 0) (λ q. let z : Err v ≡ Ok tt = sym k ∙ rw q at h in cc)
      (λ q. sym k ∙ (rw q at h) ∙ rw (off, ← e, ← f, ← g, q) refl)

  pub on_time : {u : Unit {0}} → w ≡ Ok u → {z : Asked} → z ≡ none_of 14 i → z ≡ as_result (verdict_by m over finished report)
  unfolding verdict_by as_result
  on_time {u} k j =
      by_test (eqb o 0)
      (λ q. j ∙ rw (off, ← e, ← f, ← g, q) (by_test (eqb i 0) (λ p. rw p refl) (λ p. rw p refl)))
      (λ q. let z : Ok u ≡ Err (refused 16 (lowest o)) = sym k ∙ rw q at h in cc)
