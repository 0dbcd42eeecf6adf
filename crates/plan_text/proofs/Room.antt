-- There is always room for another entry: there are as many entries as tasks listed. Assumes nothing.
use mathlib.Core.Path.{◌≡◌, refl, sym, ap, ◌∙◌}
use mathlib.Core.Bool.{false, ◌||◌}
use Prim.Native.Nat.{ℕ, suc, ◌+◌, ◌≤◌, ◌<◌}
use native.Mathlib.Omega.{arith}
use lib.Dec.{eqb}
use Rattle.task_set.specs.Sets.{width, has, insert, size}
use Rattle.task_set.proofs.Truth.{by_test}
use Rattle.task_set.proofs.Bounded.{count_cong, count_none, count_short, count_more}
use Rattle.task_set.proofs.Members.{has_none, has_insert}
use Rattle.plan.specs.Rules.{most_tasks}
use Rattle.text_form.specs.declared.Line.{Line}
use Rattle.text_form.specs.declared.Line.TheVariants.{Units, Times, Arrow, Deadline, Release, Choice}
use Rattle.text_fault.specs.declared.Kind.{Kind}
use Rattle.text_fill.specs.Adding.{is_kind, counted}
use Rattle.text_fill.proofs.InRange.{choice_task}
use Rattle.plan_text.specs.Reading.{Reading, nothing, line_fault, line_done}
use Rattle.plan_text.proofs.Faultless.{passed}

abbrev pub Counted : Reading → Type 0
Counted r = r.constraint.len ≡ size r.seen.listed

pub counted_none : Counted nothing
unfolding size
counted_none = sym (count_none width (has 0) (λ t l. has_none t))

one_more : (s t : ℕ) → t < width → has s t ≡ false → size (insert s t) ≡ suc (size s)
unfolding size
one_more s t l e =
    count_cong width (has (insert s t)) (λ i. has s i || eqb t i) (λ i m. has_insert s t i l) ∙ count_more width (has s) t l e

new_task : (r : Reading) (t k : ℕ) → line_fault r (Choice t k) ≡ 0 → (t < width) × (has r.seen.listed t ≡ false)
new_task r t k f = let p = passed r (Choice t k) f in (choice_task {line = Choice t k} p.range {k = k} refl, p.new)

pub counted_more : (r : Reading) (line : Line) → line_fault r line ≡ 0 → Counted r → Counted (line_done r line)
unfolding line_done
counted_more r (Units k n) f e = e
counted_more r (Times t k b w) f e = e
counted_more r (Arrow from to) f e = e
counted_more r (Deadline t d) f e = e
counted_more r (Release t i) f e = e
counted_more r (Choice t k) f e = let g = new_task r t k f in omega (arith, one_more r.seen.listed t g.0 g.1)

pub room : (r : Reading) {line : Line} → line_fault r line ≡ 0 → Counted r
    → (t k : ℕ) → line ≡ Choice t k → r.constraint.len < most_tasks
unfolding size
room r f e t k h =
    let g = new_task r t k (sym (ap (line_fault r) h) ∙ f) in
    omega (arith, e, count_short width (has r.seen.listed) t g.0 g.1)

-- a line adds at most one, and takes none away
pub counted_le : (line : Line) (kind : Kind) (n : ℕ) → counted line kind n ≤ n + 1
counted_le line kind n = by_test (is_kind line kind) (λ e. rw e (omega arith)) (λ e. rw e (omega arith))

pub counted_ge : (line : Line) (kind : Kind) (n : ℕ) → n ≤ counted line kind n
counted_ge line kind n = by_test (is_kind line kind) (λ e. rw e (omega arith)) (λ e. rw e (omega arith))
