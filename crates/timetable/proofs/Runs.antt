-- What is answered and written for a run. Assumes nothing.
use mathlib.Core.Path.{◌≡◌, refl}
use mathlib.Core.List.{List}
use Prim.Native.Nat.{ℕ, ◌≤◌}
use Rattle.std.proofs.Common.{Result}
use lib.ListN.{length}
use Rattle.plan.specs.declared.Plan.{Plan}
use Rattle.plan.specs.declared.Constraint.{Constraint}
use Rattle.plan.specs.declared.Verdict.{Verdict}
use Rattle.plan.specs.Rules.{most_tasks}
use Rattle.plan.specs.Refusals.{refused}
use Rattle.simulation_run.specs.declared.Simulation.{Simulation}
use Rattle.simulation.specs.Simulated.{simulated, worst_case}
use Rattle.simulation.proofs.Ran.{simulated_taken, worst_taken, few}
use Rattle.table_lines.specs.declared.Written.{Written}
use Rattle.table_lines.specs.Texts.{answered, bytes_after}
use Rattle.table_lines.specs.Steps.{written_of, Outcome}
use Rattle.table_lines.proofs.Outcomes.{by_result, refuses}
use Rattle.table_run_lines.specs.RunText.{text_of}
use Rattle.timetable.specs.Table.{timetabled, buffer_after, worst_timetabled, worst_buffer_after}

-- what is answered for a result with a verdict and a text, of a simulation
pub by_run : (text : Simulation → List ℕ) {s t : Simulation} {b b₁ : List ℕ} {r : Result ℕ Verdict} {w : Written} → s ≡ t
    → Outcome (refused s.number s.place) (text s) b r b₁ → w ≡ written_of r
    → (w ≡ answered (refused t.number t.place) (text t) (length b))
    × (b₁ ≡ bytes_after (refused t.number t.place) (text t) b)
by_run = by_result (λ s. refused s.number s.place)

-- ---- the run of given times

module _ (p : Plan) (c : Constraint) (times : List ℕ) {s : Simulation} (e : s ≡ simulated p c times) where
  pub given_few : s.number ≡ 0 → c.len ≤ most_tasks
  given_few = few (simulated_taken p c times) e

  pub given_answer : (n : ℕ) → timetabled p c times n ≡ answered (refused s.number s.place) (text_of c s) n
  unfolding timetabled
  given_answer n = rw e refl

  pub given_bytes : (b : List ℕ) → buffer_after p c times b ≡ bytes_after (refused s.number s.place) (text_of c s) b
  unfolding buffer_after
  given_bytes b = rw e refl

  -- where it is refused
  module _ (b : List ℕ) (f : s.number ≡ 0 → ⊥) where
    pub given_refused : record { number = s.number; place = s.place; written = 0 } ≡ timetabled p c times (length b)
    unfolding timetabled
    given_refused = (by_run (text_of c) e (refuses (refused s.number s.place) (text_of c s) b f) refl).0

    pub given_untouched : b ≡ buffer_after p c times b
    unfolding buffer_after
    given_untouched = (by_run (text_of c) e (refuses (refused s.number s.place) (text_of c s) b f) refl).1

-- ---- the run of worst times

module _ (p : Plan) (c : Constraint) {s : Simulation} (e : s ≡ worst_case p c) where
  pub worst_few : s.number ≡ 0 → c.len ≤ most_tasks
  worst_few = few (worst_taken p c) e

  pub worst_answer : (n : ℕ) → worst_timetabled p c n ≡ answered (refused s.number s.place) (text_of c s) n
  unfolding worst_timetabled
  worst_answer n = rw e refl

  pub worst_bytes : (b : List ℕ) → worst_buffer_after p c b ≡ bytes_after (refused s.number s.place) (text_of c s) b
  unfolding worst_buffer_after
  worst_bytes b = rw e refl

  -- where it is refused
  module _ (b : List ℕ) (f : s.number ≡ 0 → ⊥) where
    pub worst_refused : record { number = s.number; place = s.place; written = 0 } ≡ worst_timetabled p c (length b)
    unfolding worst_timetabled
    worst_refused = (by_run (text_of c) e (refuses (refused s.number s.place) (text_of c s) b f) refl).0

    pub worst_untouched : b ≡ worst_buffer_after p c b
    unfolding worst_buffer_after
    worst_untouched = (by_run (text_of c) e (refuses (refused s.number s.place) (text_of c s) b f) refl).1
