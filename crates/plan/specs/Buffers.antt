-- Lent buffers (document 01, "When an operation says no"). Assumes nothing.
use Rattle.std.specs.Prelude.{cond, List, ◌++◌, ℕ, eqb, ltb, length, drop}
use Rattle.plan.specs.declared.Verdict.{Verdict}
use Rattle.plan.specs.Refusals.{refused, no_refusal, first_refusal}

-- 19, after the refusals v that come before it: "buffer shorter than needed, place the bytes needed"
abbrev pub fitted : Verdict → ℕ → ℕ → Verdict
fitted v needed room = first_refusal v (cond (ltb room needed) (refused 19 needed) no_refusal)

-- a buffer with these at its start: "bytes after them are unchanged"
abbrev pub at_start : List ℕ → List ℕ → List ℕ
at_start text buffer = text ++ drop (length text) buffer

-- the buffer afterwards: "No lent buffer is altered by any refusal"
abbrev pub filled : Verdict → List ℕ → List ℕ → List ℕ
filled v text buffer = cond (eqb v.number 0) (at_start text buffer) buffer
