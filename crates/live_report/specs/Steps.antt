-- What a report on a sound state is refused with, by sets, and the stamps of the reported tasks. No promise of a public function cites it.
-- Assumes nothing.
use Rattle.std.specs.Prelude.{Bool, cond, not, List, ℕ, eqb, get_or}
use Rattle.std.specs.Int.Bits.{bit_and}
use Rattle.task_set.specs.Sets.{has, lowest, without}
use Rattle.plan.specs.declared.Verdict.{Verdict}
use Rattle.plan.specs.Refusals.{refused, no_refusal}
use Rattle.live_marks.specs.declared.Marks.{Marks}

-- refused at the lowest member of a faulty set, otherwise what follows
abbrev pub unless_empty : ℕ → ℕ → Verdict → Verdict
unless_empty number faulty rest = cond (not (eqb faulty 0)) (refused number (lowest faulty)) rest

-- 13, 16 and 14, by sets
unfoldable pub verdict_by : Marks → Bool → ℕ → ℕ → Verdict
verdict_by m over finished report =
    let running = without m.started finished in
    cond over (refused 13 0)
    (unless_empty 16 (without (bit_and m.due running) report)
    (unless_empty 14 (without report running)
    no_refusal))

-- the finish of task t, once the reported tasks have the instant as theirs
unfoldable pub stamp_at : List ℕ → ℕ → ℕ → ℕ → ℕ
stamp_at finishes report instant t = cond (has report t) instant (get_or finishes t 0)
