-- The margins as text (document 02, 2), in the format that docs/DECISIONS.md fixes and the quotes name. Assumes nothing.
use Rattle.std.specs.Prelude.{Bool, cond, List, [], ◌∷◌, ◌++◌, ℕ, ℤ}
use Rattle.plan.specs.declared.Plan.{Plan}
use Rattle.plan.specs.Rules.{most_tasks, deadline_of}
use Rattle.plan.specs.Refusals.{entry_at}
use Rattle.simulation_run.specs.declared.Simulation.{Simulation}
use Rattle.slack.specs.declared.Slacks.{Slacks}
use Rattle.slack.specs.declared.Parts.{Parts}
use Rattle.slack.specs.Margins.{is_due, slack_at, parts_of}
use Rattle.table_lines.specs.Texts.{field, joined}

-- a number by its sign and its size, and the byte that ends it: "a number below zero is `-` and digits"; 45 is the byte of `-`
abbrev pub signed_field : Parts → ℕ → List ℕ
signed_field s mark = cond s.negative (45 ∷ []) [] ++ field s.size mark

-- "task, deadline, worst finish, margin"
abbrev pub slack_line : ℕ → ℕ → ℕ → Parts → List ℕ
slack_line t d f x = (field t 9 ++ field d 9) ++ (field f 9 ++ signed_field x 10)

-- "a line for each task with a deadline": that of task t, or nothing; finishes and slacks are by task number
unfoldable pub slack_line_of : List ℕ → List ℕ → List ℤ → ℕ → List ℕ
slack_line_of deadlines finishes slacks t =
    let l = slack_line t (deadline_of deadlines t) (entry_at finishes t) (parts_of (slack_at slacks t)) in
    cond (is_due deadlines t) l []

-- "last `L`, the least margin, its task"; 76 is the byte of `L`
abbrev pub least_line : Parts → ℕ → List ℕ
least_line least t = 76 ∷ 9 ∷ (signed_field least 9 ++ field t 10)

-- "or the line `no deadlines`"
abbrev pub no_deadlines : List ℕ
no_deadlines = 110 ∷ 111 ∷ 32 ∷ 100 ∷ 101 ∷ 97 ∷ 100 ∷ 108 ∷ 105 ∷ 110 ∷ 101 ∷ 115 ∷ 10 ∷ []

-- "in task order"
abbrev pub slack_lines : List ℕ → List ℕ → List ℤ → List ℕ
slack_lines deadlines finishes slacks = joined (slack_line_of deadlines finishes slacks) most_tasks

unfoldable pub slack_text_by : List ℕ → List ℕ → List ℤ → Bool → Parts → ℕ → List ℕ
slack_text_by deadlines finishes slacks any least t =
    cond any (slack_lines deadlines finishes slacks ++ least_line least t) no_deadlines

-- of a plan, its run and the slacks in it
abbrev pub slacks_text : Plan → Simulation → Slacks → List ℕ
slacks_text p s r = slack_text_by p.deadlines s.finishes r.slacks r.any (parts_of r.least) r.task
