-- The margins of a plan as text (document 02, 2). Assumes nothing.
use Rattle.std.specs.Prelude.{List, ℕ}
use Rattle.plan.specs.declared.Plan.{Plan}
use Rattle.plan.specs.declared.Constraint.{Constraint}
use Rattle.plan.specs.Refusals.{refused}
use Rattle.simulation_run.specs.declared.Simulation.{Simulation}
use Rattle.simulation.specs.Simulated.{worst_case}
use Rattle.slack.specs.Margins.{slacks_in}
use Rattle.table_lines.specs.declared.Written.{Written}
use Rattle.table_lines.specs.Texts.{answered, bytes_after}
use Rattle.table_slack_lines.specs.SlackText.{slacks_text}

-- the margins of a plan in a run that is accepted
abbrev pub slack_text_of : Plan → Simulation → List ℕ
slack_text_of p s = slacks_text p s (slacks_in p s)

-- bytes enough for every such text
abbrev pub slack_room : ℕ
slack_room = 1935

-- ---- in the run of worst times, which the program shows: 8 to 11, then 19

unfoldable pub slack_tabled : Plan → Constraint → ℕ → Written
slack_tabled p c = let s = worst_case p c in answered (refused s.number s.place) (slack_text_of p s)

unfoldable pub slack_buffer_after : Plan → Constraint → List ℕ → List ℕ
slack_buffer_after p c = let s = worst_case p c in bytes_after (refused s.number s.place) (slack_text_of p s)
