-- What is answered and written for the run of worst times. Assumes nothing.
use mathlib.Core.Path.{◌≡◌, refl}
use mathlib.Core.List.{List}
use Prim.Native.Nat.{ℕ}
use lib.ListN.{length}
use Rattle.plan.specs.declared.Plan.{Plan}
use Rattle.plan.specs.declared.Constraint.{Constraint}
use Rattle.plan.specs.Refusals.{refused}
use Rattle.simulation_run.specs.declared.Simulation.{Simulation}
use Rattle.simulation.specs.Simulated.{worst_case}
use Rattle.table_lines.specs.Texts.{answered, bytes_after}
use Rattle.table_lines.proofs.Outcomes.{by_result, refuses}
use Rattle.table_slacks.specs.SlackTable.{slack_text_of, slack_tabled, slack_buffer_after}

module _ (p : Plan) (c : Constraint) {s : Simulation} (e : s ≡ worst_case p c) where
  pub slack_answer : (n : ℕ) → slack_tabled p c n ≡ answered (refused s.number s.place) (slack_text_of p s) n
  unfolding slack_tabled
  slack_answer n = rw e refl

  pub slack_bytes : (b : List ℕ) → slack_buffer_after p c b ≡ bytes_after (refused s.number s.place) (slack_text_of p s) b
  unfolding slack_buffer_after
  slack_bytes b = rw e refl

  -- where it is refused
  module _ (b : List ℕ) (f : s.number ≡ 0 → ⊥) where
    pub slack_refused : record { number = s.number; place = s.place; written = 0 } ≡ slack_tabled p c (length b)
    unfolding slack_tabled
    slack_refused =
        (by_result (λ s. refused s.number s.place) (slack_text_of p) e (refuses (refused s.number s.place) (slack_text_of p s) b f) refl).0

    pub slack_untouched : b ≡ slack_buffer_after p c b
    unfolding slack_buffer_after
    slack_untouched =
        (by_result (λ s. refused s.number s.place) (slack_text_of p) e (refuses (refused s.number s.place) (slack_text_of p s) b f) refl).1
