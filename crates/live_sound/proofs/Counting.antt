-- Whether each of the first numbers is a member, from how many are. Assumes nothing.
use mathlib.Core.Path.{◌≡◌, ◌∙◌}
use mathlib.Core.Bool.{and-true, and-false}
use Prim.Native.Nat.{ℕ, ◌≤◌}
use borrow.Author.Tests.{lt-ltb, le-ltb}
use lib.Dec.{eqb}
use Rattle.task_set.specs.Bounded.{all}
use Rattle.task_set.specs.Sets.{width, has, below, size}
use Rattle.task_set.proofs.Bounded.{count_cong, count_all}
use Rattle.task_set.proofs.Members.{has_below}
use Rattle.dispatch_theory.proofs.Reorder.{count_upto}

-- the members below n are as many as n exactly if each number below n is one
pub over_by : (n s : ℕ) {done number : ℕ} → n ≤ width → done ≡ below s n → number ≡ size done → eqb number n ≡ all n (has s)
unfolding size
over_by n s l e f =
    rw (
      f,
      e,
      count_upto n width (has (below s n)) l (λ t m k. has_below s n t ∙ rw (le-ltb t n m) (and-false (has s t))),
      count_cong n (has (below s n)) (has s) (λ t m. has_below s n t ∙ rw (lt-ltb t n m) (and-true (has s t))),
    ) (count_all n (has s))
