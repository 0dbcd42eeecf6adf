-- The walk, on sets and arrays. Assumes nothing.
use Rattle.std.specs.Prelude.{Bool, cond, ◌&&◌, List, ℕ, zero, suc, ◌+◌, leb, ltb, get_or, set}
use Rattle.std.specs.Int.Bits.{bit_and}
use Rattle.task_set.specs.Sets.{insert, subset, size}
use Rattle.plan.specs.Rules.{predecessors_of, release_of}
use Rattle.plan.specs.Refusals.{entry_at}
use Rattle.live_walk.specs.declared.Walked.{Walked}

-- the predecessors are finished, the not-before instant has come, and fewer running tasks use the type than it has units
abbrev pub may_go : ℕ → ℕ → ℕ → ℕ → ℕ → ℕ → ℕ → Bool
may_go predecessors finished release instant users running units =
    subset predecessors finished && (leb release instant && ltb (size (bit_and users running)) units)

-- the task at the next position starts at the instant
abbrev pub gone : List ℕ → ℕ → Walked → Walked
gone order instant w =
    let t = entry_at order w.begun in
    record { begun = w.begun + 1; running = insert w.running t; starts = set w.starts t instant }

-- the walk with so many positions left
unfoldable pub walk_from : List ℕ → List ℕ → List ℕ → List ℕ → List ℕ → List ℕ → ℕ → ℕ → ℕ → Walked → Walked
walk_from units predecessors releases order chosen users instant finished zero w = w
walk_from units predecessors releases order chosen users instant finished (suc left) w =
    let t = entry_at order w.begun in
    let k = entry_at chosen w.begun in
    let further = walk_from units predecessors releases order chosen users instant finished left (gone order instant w) in
    let may = may_go (predecessors_of predecessors t) finished (release_of releases t) instant (get_or users k 0) w.running
    (get_or units k 0) in
    cond may further w
