-- Start and a tick for each report of a lent list, each answer written to lent buffers. Assumes nothing.
use Rattle.std.specs.Prelude.{◌≡◌, cond, List, map, ℕ, min, eqb, length}
use Rattle.plan.specs.declared.Plan.{Plan}
use Rattle.plan.specs.declared.Constraint.{Constraint}
use Rattle.plan.specs.declared.Verdict.{Verdict}
use Rattle.plan.specs.Refusals.{verdict}
use Rattle.plan.specs.Buffers.{fitted, filled}
use Rattle.runs.specs.Journal.{Answer}
use Rattle.live.specs.States.{no_state}
use Rattle.live.specs.Ticks.{started}
use Rattle.replay.specs.declared.Replayed.{Replayed}
use Rattle.replay.specs.Lists.{state_after, said_after, Faithful}

-- 8 to 11, then 19: each report needs an entry in each buffer
abbrev pub replay_verdict : Plan → Constraint → List ℕ → ℕ → Verdict
replay_verdict p c reports room = fitted (verdict p c) (length reports) room

-- "the rest of a refused answer is zeros"
abbrev pub refusal : ℕ → ℕ → Replayed
refusal number place = record { number = number; place = place; started = 0; state = no_state }

-- start's set and the state after the list, or a refusal
unfoldable pub replayed : Plan → Constraint → List ℕ → ℕ → Replayed
replayed p c reports room =
    let v = replay_verdict p c reports room in
    let opened = started p c in
    cond (eqb v.number 0)
    record { number = 0; place = 0; started = opened.started; state = state_after opened.state reports }
    (refusal v.number v.place)

-- a buffer afterwards: one part of each tick's answer
abbrev pub written : (Answer → ℕ) → Plan → Constraint → List ℕ → ℕ → List ℕ → List ℕ
written part p c reports room = filled (replay_verdict p c reports room) (map part (said_after (started p c).state reports))

-- the shortest of three buffers decides
abbrev pub room_in : List ℕ → List ℕ → List ℕ → ℕ
room_in numbers places sets = min (length numbers) (min (length places) (length sets))

-- what replay promises: its answer, every entry of its buffers afterwards, and the one claim
pub record Replays
    (p : Plan)
    (c : Constraint)
    (reports numbers places sets : List ℕ)
    (r : Replayed)
    (numbers' places' sets' : List ℕ) : Type 0 where
  pub answer : r ≡ replayed p c reports (room_in numbers places sets)
  pub numbered : numbers' ≡ written (λ a. a.number) p c reports (room_in numbers places sets) numbers
  pub placed : places' ≡ written (λ a. a.place) p c reports (room_in numbers places sets) places
  pub sets_filled : sets' ≡ written (λ a. a.started) p c reports (room_in numbers places sets) sets
  pub faithful : (verdict p c).number ≡ 0 → Faithful p c reports
