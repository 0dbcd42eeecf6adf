-- The C lines of an order: their lengths, and that those of every proposal fit. Assumes nothing.
use mathlib.Core.Path.{◌≡◌, refl}
use Prim.Native.Nat.{ℕ, ◌+◌, ◌≤◌, ◌<◌}
use native.Mathlib.Nat.{le_trans, le_of_eq, lt_of_lt_of_le, mul-le-mul_right}
use native.Mathlib.Omega.{arith}
use lib.ListN.{length, length-append}
use Rattle.plan.specs.declared.Plan.{Plan}
use Rattle.plan.specs.declared.Constraint.{Constraint}
use Rattle.plan.specs.Rules.{most_tasks}
use Rattle.plan.specs.Refusals.{entry_at, verdict}
use Rattle.plan.proofs.Accepted.{Accepted, accepted}
use Rattle.dispatch_theory.proofs.Sums.{sum_le}
use Rattle.proposal_theory.specs.Proposals.{proposed}
use Rattle.proposal.proofs.Answers.{promise-passes}
use Rattle.table_lines.specs.Decimal.{decimal, decimal_upto}
use Rattle.table_orders.specs.OrderTable.{order_line, order_text_of, order_room}
use Rattle.table_lines.proofs.Digits.{length_one, decimal_mono}
use Rattle.table_lines.proofs.Text.{length_joined}

pub entry_length : (t k : ℕ) → length (order_line t k) ≡ length (decimal t) + length (decimal k) + 4
entry_length t k = simp length-append (omega arith)

-- a task has two digits at most, and a type one
short_line : (t k : ℕ) → t < most_tasks → k < 10 → length (order_line t k) ≤ 7
unfolding decimal decimal_upto
short_line t k l m =
    let two : length (decimal t) ≤ 2 = decimal_mono t 63 (omega arith) in
    omega (arith, entry_length t k, two, length_one k m)

-- the lines of an order that the check takes
order_fits : (p : Plan) (c : Constraint) → (verdict p c).number ≡ 0 → length (order_text_of c) ≤ order_room
order_fits p c e =
    le_trans (le_of_eq (length_joined _ c.len))
    (le_trans (sum_le c.len _ 7 (λ i l. let m = inside l in
    let t = lt_of_lt_of_le (a.task i m) a.few_tasks in
    short_line (entry_at c.order i) (entry_at c.chosen i) t (omega (arith, a.type i m, a.few_types))))
    (mul-le-mul_right 7 (le_trans (le_of_eq a.whole) a.few_tasks)))
  where
    a : Accepted p c
    a = accepted p c e

    inside : {i : ℕ} → i < c.len → i < p.tasks
    inside l = omega (arith, (accepted p c e).whole)

-- the lines of every proposal fit
pub order_room_lem : (p : Plan) → (proposed p).number ≡ 0 → length (order_text_of (proposed p).constraint) ≤ order_room
order_room_lem p z = order_fits p (proposed p).constraint (promise-passes p refl z)
