-- What is answered and written for a proposal. Assumes nothing.
use mathlib.Core.Path.{◌≡◌, refl}
use mathlib.Core.List.{List}
use Prim.Native.Nat.{ℕ, ◌≤◌}
use lib.ListN.{length}
use Rattle.plan.specs.declared.Plan.{Plan}
use Rattle.plan.specs.Rules.{most_tasks}
use Rattle.plan.specs.Refusals.{refused}
use Rattle.proposal_theory.specs.declared.Proposal.{Proposal}
use Rattle.proposal_theory.specs.Proposals.{proposed}
use Rattle.proposal.proofs.Answers.{proposal-short}
use Rattle.table_lines.specs.Texts.{answered, bytes_after}
use Rattle.table_lines.proofs.Outcomes.{by_result, refuses}
use Rattle.table_orders.specs.OrderTable.{order_text_of, order_tabled, order_buffer_after}

module _ (p : Plan) {a : Proposal} (e : a ≡ proposed p) where
  pub order_few : a.constraint.len ≤ most_tasks
  order_few = rw e (proposal-short _)

  pub order_answer : (n : ℕ) → order_tabled p n ≡ answered (refused a.number a.place) (order_text_of a.constraint) n
  unfolding order_tabled
  order_answer n = rw e refl

  pub order_bytes : (b : List ℕ) → order_buffer_after p b ≡ bytes_after (refused a.number a.place) (order_text_of a.constraint) b
  unfolding order_buffer_after
  order_bytes b = rw e refl

  -- where it is refused
  module _ (b : List ℕ) (f : a.number ≡ 0 → ⊥) where
    pub order_refused : record { number = a.number; place = a.place; written = 0 } ≡ order_tabled p (length b)
    unfolding order_tabled
    order_refused =
        (by_result (λ a. refused a.number a.place) (λ a. order_text_of a.constraint) e (refuses (refused a.number a.place) (order_text_of a.constraint) b f) refl).0

    pub order_untouched : b ≡ order_buffer_after p b
    unfolding order_buffer_after
    order_untouched =
        (by_result (λ a. refused a.number a.place) (λ a. order_text_of a.constraint) e (refuses (refused a.number a.place) (order_text_of a.constraint) b f) refl).1
