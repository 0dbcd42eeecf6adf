-- `bench_answer::answer` meets its contract. Assumes nothing.
use native.Mathlib.Omega.{arith}
use borrow.Author.Rules.{rules}
use Rattle.plan_text.specs.Text.{read_text}
use Rattle.timetable.specs.Table.{worst_timetabled, worst_buffer_after}
use Rattle.timetable.proofs.Longest.{longest_worst}
use Rattle.bench_answer.specs.Answer.{answer_to, answer_text}
use Rattle.bench_answer.proofs.Answered.{by_table}
use Rattle.bench_answer.proofs.answer.Goals as goal

pub returns : goal.returns
unfolding answer_text answer_to worst_timetabled worst_buffer_after
returns c =
    by_table (read_text c.args.text.now) _ _ _ (omega arith) (λ q. omega (arith, longest_worst _ _ q)) _ c.answer_with.ensures
    (λ lent left w k. search rules)
