-- What the loop over a list of reports computes. No promise of a public function cites it. Assumes nothing.
use Rattle.std.specs.Prelude.{List, map, ℕ}
use Rattle.plan.specs.Buffers.{at_start}
use Rattle.runs.specs.Journal.{Answer}
use Rattle.live.specs.declared.State.{State}
use Rattle.replay.specs.Lists.{state_after, said_after}

-- the state after a tick for each, and the buffers with the parts of their answers at the start
abbrev pub after_each : State → List ℕ → List ℕ → List ℕ → List ℕ → State × (List ℕ × (List ℕ × List ℕ))
after_each s reports numbers places sets =
    let part : (Answer → ℕ) → List ℕ → List ℕ = λ f. at_start (map f (said_after s reports)) in
    (state_after s reports, (part (λ a. a.number) numbers, (part (λ a. a.place) places, part (λ a. a.started) sets)))
