-- What start and a tick answer (document 01, "When an operation says no", Start, Tick). Assumes nothing.
use Rattle.std.specs.Prelude.{cond, ℕ, eqb}
use Rattle.task_set.specs.Sets.{has}
use Rattle.plan.specs.declared.Plan.{Plan}
use Rattle.plan.specs.declared.Constraint.{Constraint}
use Rattle.plan.specs.declared.Verdict.{Verdict}
use Rattle.plan.specs.Refusals.{refused, no_refusal, first_refusal, verdict}
use Rattle.runs.specs.Running.{Notes, blank, opening, step}
use Rattle.runs.specs.Journal.{refusal, newly_started}
use Rattle.live.specs.declared.State.{State}
use Rattle.live.specs.declared.Ticked.{Ticked}
use Rattle.live.specs.States.{notes_of, state_of, no_state}
use Rattle.live.specs.Soundness.{is_sound}

-- the answer of notes that lead to others: the tasks started between them, and the state that stands for the later ones
abbrev pub moved : Plan → Constraint → Notes → Notes → Ticked
moved p c earlier later = record { number = 0; place = 0; started = newly_started earlier later; state = state_of p c later }

-- a refusal with the state s: "with the empty started set"
abbrev pub stayed : Verdict → State → Ticked
stayed v s = record { number = v.number; place = v.place; started = 0; state = s }

-- Start: "8 to 11. It gives the state after the walk of instant 0 and the started set; a refusal gives an all-zero state"
unfoldable pub started : Plan → Constraint → Ticked
started p c = cond (eqb (verdict p c).number 0) (moved p c blank (opening p c)) (stayed (verdict p c) no_state)

-- 12, "place 0: the state is not sound"; then 13, 16 and 14 on the notes that the state stands for
unfoldable pub tick_verdict : State → ℕ → Verdict
tick_verdict s report =
    first_refusal (cond (is_sound s) no_refusal (refused 12 0)) (refusal s.plan s.constraint (notes_of s) report)

-- Tick: one instant of the running rules, or "The state comes back as handed in"
unfoldable pub ticked : State → ℕ → Ticked
ticked s report =
    cond (eqb (tick_verdict s report).number 0)
    (moved s.plan s.constraint (notes_of s) (step s.plan s.constraint (has report) (notes_of s)))
    (stayed (tick_verdict s report) s)
