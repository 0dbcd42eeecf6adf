-- `bench_answer::proposal_answer` meets its contract. Assumes nothing.
use native.Mathlib.Omega.{arith}
use borrow.Author.Rules.{rules}
use Rattle.plan_text.specs.Text.{read_text}
use Rattle.table_orders.specs.OrderTable.{order_tabled, order_buffer_after}
use Rattle.table_orders.proofs.OrderLines.{order_room_lem}
use Rattle.bench_answer.specs.Answer.{proposal_answer_to, proposal_answer_text}
use Rattle.bench_answer.proofs.Answered.{by_table}
use Rattle.bench_answer.proofs.proposal_answer.Goals as goal

pub returns : goal.returns
unfolding proposal_answer_text proposal_answer_to order_tabled order_buffer_after
returns c =
    by_table (read_text c.args.text.now) _ _ _ (omega arith) (λ q. omega (arith, order_room_lem _ q)) _ c.answer_with.ensures
    (λ lent left w k. search rules)
