-- `bench_answer::slack_answer` meets its contract. Assumes nothing.
use native.Mathlib.Omega.{arith}
use borrow.Author.Rules.{rules}
use Rattle.plan_text.specs.Text.{read_text}
use Rattle.table_slacks.specs.SlackTable.{slack_tabled, slack_buffer_after}
use Rattle.table_slacks.proofs.SlackRoom.{slack_room_lem}
use Rattle.bench_answer.specs.Answer.{slack_answer_to, slack_answer_text}
use Rattle.bench_answer.proofs.Answered.{by_table}
use Rattle.bench_answer.proofs.slack_answer.Goals as goal

pub returns : goal.returns
unfolding slack_answer_text slack_answer_to slack_tabled slack_buffer_after
returns c =
    by_table (read_text c.args.text.now) _ _ _ (omega arith) (λ q. omega (arith, slack_room_lem _ _ q)) _ c.answer_with.ensures
    (λ lent left w k. search rules)
