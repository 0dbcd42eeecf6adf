-- The order that the bench proposes as C lines (document 02, 8; document 01, "The plan text"). Assumes nothing.
use Rattle.std.specs.Prelude.{List, ◌∷◌, ◌++◌, ℕ, ◌*◌}
use Rattle.plan.specs.declared.Plan.{Plan}
use Rattle.plan.specs.declared.Constraint.{Constraint}
use Rattle.plan.specs.Rules.{most_tasks}
use Rattle.plan.specs.Refusals.{entry_at, refused}
use Rattle.proposal_theory.specs.Proposals.{proposed}
use Rattle.table_lines.specs.declared.Written.{Written}
use Rattle.table_lines.specs.Texts.{field, joined, answered, bytes_after}

-- "C, task, type"; 67 is the byte of `C`
abbrev pub order_line : ℕ → ℕ → List ℕ
order_line t k = 67 ∷ 9 ∷ (field t 9 ++ field k 10)

-- "the constraint, in the order of its lines": the lines of the first positions
abbrev pub order_lines : List ℕ → List ℕ → ℕ → List ℕ
order_lines order chosen = joined (λ i. order_line (entry_at order i) (entry_at chosen i))

abbrev pub order_text_of : Constraint → List ℕ
order_text_of c = order_lines c.order c.chosen c.len

-- bytes enough for the lines of every order: a line has two letters for the task and one for the type at most
abbrev pub order_room : ℕ
order_room = most_tasks * 7

-- ---- of a plan: 8 and 23 of the proposal, then 19

unfoldable pub order_tabled : Plan → ℕ → Written
order_tabled p = let r = proposed p in answered (refused r.number r.place) (order_text_of r.constraint)

unfoldable pub order_buffer_after : Plan → List ℕ → List ℕ
order_buffer_after p = let r = proposed p in bytes_after (refused r.number r.place) (order_text_of r.constraint)
