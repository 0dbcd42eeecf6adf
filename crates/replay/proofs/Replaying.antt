-- Ticks for the reports of a list, one after the other: what is left gives the whole. Assumes nothing.
use mathlib.Core.Path.{◌≡◌, refl, sym, ap, ◌∙◌}
use mathlib.Core.List.{List, [], ◌∷◌, map}
use Prim.Native.Nat.{ℕ, suc, ◌+◌, ◌≤◌, ◌<◌}
use native.Mathlib.Nat.{zero-add}
use native.Mathlib.Numerals.{add-one}
use native.Mathlib.Omega.{arith}
use borrow.Author.Tests.{eqb-true, eqb-false, eq-eqb, ne_eqb, lt-ltb, le-ltb}
use lib.Dec.{eqb}
use lib.ListN.{length, get_or, set, drop, length-set, length-map, drop_of_length-le}
use lib.Seq.{drop-cons, sets-eq, sets as stores}
use Rattle.task_set.proofs.Truth.{by_test}
use Rattle.plan.specs.declared.Plan.{Plan}
use Rattle.plan.specs.declared.Constraint.{Constraint}
use Rattle.plan.specs.declared.Verdict.{Verdict}
use Rattle.plan.specs.Refusals.{refused, no_refusal, first_refusal, verdict}
use Rattle.plan.specs.Buffers.{fitted, at_start}
use Rattle.runs.specs.Journal.{Answer}
use Rattle.live.specs.declared.State.{State}
use Rattle.live.specs.declared.Ticked.{Ticked}
use Rattle.live.specs.Ticks.{started, ticked}
use Rattle.replay.specs.Lists.{state_after, said_after}
use Rattle.replay.specs.declared.Replayed.{Replayed}
use Rattle.replay.specs.Replays.{replay_verdict, refusal, replayed, room_in, Replays}
use Rattle.replay.specs.Steps.{after_each}
use Rattle.replay.proofs.Claims.{claim}

length_said : (s : State) (reports : List ℕ) → length (said_after s reports) ≡ length reports
unfolding said_after
length_said s [] = refl
length_said s (report ∷ rest) = ap suc (length_said (ticked s report).state rest)

-- the state after reports, and the buffers with the parts of the answers stored from entry i on
abbrev Outcome : Type 0
Outcome = State × (List ℕ × (List ℕ × List ℕ))

abbrev pub outcome : State → List ℕ → ℕ → List ℕ → List ℕ → List ℕ → Outcome
outcome s reports i numbers places sets =
    let part : (Answer → ℕ) → List ℕ → List ℕ = λ f buffer. stores buffer i (map f (said_after s reports)) in
    (state_after s reports, (part (λ a. a.number) numbers, (part (λ a. a.place) places, part (λ a. a.started) sets)))

module _ (reports numbers₀ places₀ sets₀ : List ℕ) (first : State) where
  -- i of the reports are answered: the others lead to the whole
  pub record Answered (numbers places sets : List ℕ) (s : State) (i : ℕ) : Type 0 where
    pub within : i ≤ length reports
    pub numbers_long : length numbers₀ ≡ length numbers
    pub places_long : length places₀ ≡ length places
    pub sets_long : length sets₀ ≡ length sets
    pub makes : outcome s (drop i reports) i numbers places sets ≡ outcome first reports 0 numbers₀ places₀ sets₀

  pub answered_more : (numbers places sets : List ℕ) (s : State) (i : ℕ) {t : Ticked} → i < length reports
      → t ≡ ticked s (get_or reports i 0)
      → Answered numbers places sets s i
      → Answered (set numbers i t.number) (set places i t.place) (set sets i t.started) t.state (i + 1)
  unfolding state_after said_after
  answered_more numbers places sets s i l e a =
      rw (e, add-one i)
      record {
        within = l;
        numbers_long = a.numbers_long ∙ sym (length-set numbers i _);
        places_long = a.places_long ∙ sym (length-set places i _);
        sets_long = a.sets_long ∙ sym (length-set sets i _);
        makes = rw (drop-cons reports i 0 l) at a.makes;
      }

  pub answered_all : {numbers places sets : List ℕ} {s : State} {i : ℕ} → length reports ≤ room_in numbers₀ places₀ sets₀
      → length reports ≤ i → Answered numbers places sets s i
      → (s, (numbers, (places, sets))) ≡ after_each first reports numbers₀ places₀ sets₀
  unfolding state_after said_after
  answered_all room h a =
      (rw (drop_of_length-le reports h) at a.makes)
      ∙ rw (
        whole (λ r. r.number) numbers₀ (omega arith),
        whole (λ r. r.place) places₀ (omega arith),
        whole (λ r. r.started) sets₀ (omega arith),
      )
    where
      whole : (part : Answer → ℕ) (buffer : List ℕ) → length reports ≤ length buffer
          → stores buffer 0 (map part (said_after first reports)) ≡ at_start (map part (said_after first reports)) buffer
      whole part buffer l =
          let said = map part (said_after first reports) in
          rw zero-add at (sets-eq said buffer 0 (rw (length-map, length_said, zero-add) l))

-- ---- replay

-- start refuses as the check does, and then 19 is tried
module _ (p : Plan) (c : Constraint) {t : Ticked} (e : t ≡ started p c) where
  refused_first : (t.number ≡ 0 → ⊥) → refused t.number t.place ≡ verdict p c
  unfolding started
  refused_first f =
      by_test (eqb (verdict p c).number 0) (λ q. absurd (f (rw (e, q) refl))) (λ q. rw (e, q) refl)

  taken_first : t.number ≡ 0 → (verdict p c).number ≡ 0
  unfolding started
  taken_first f =
      by_test (eqb (verdict p c).number 0) (eqb-true _ 0)
      (λ q. absurd (eqb-false _ 0 q (rw (e, q) at f)))

  pub says_first : (needed room : ℕ) → (t.number ≡ 0 → ⊥) → refused t.number t.place ≡ fitted (verdict p c) needed room
  unfolding first_refusal
  says_first needed room f = let g = refused_first f in g ∙ rw (← g, ne_eqb t.number 0 f) refl

  pub says_19 : (needed room : ℕ) → t.number ≡ 0 → room < needed → refused 19 needed ≡ fitted (verdict p c) needed room
  unfolding first_refusal
  says_19 needed room f l = rw (eq-eqb (verdict p c).number 0 (taken_first f), lt-ltb room needed l) refl

  pub says_none : (needed room : ℕ) → t.number ≡ 0 → needed ≤ room → no_refusal ≡ fitted (verdict p c) needed room
  unfolding first_refusal
  says_none needed room f l = rw (eq-eqb (verdict p c).number 0 (taken_first f), le-ltb room needed l) refl

module _ (p : Plan) (c : Constraint) (reports numbers places sets : List ℕ) {v : Verdict}
    (e : v ≡ replay_verdict p c reports (room_in numbers places sets)) where
  pub replays_refused : (v.number ≡ 0 → ⊥) → {r : Replayed} → r ≡ refusal v.number v.place
      → Replays p c reports numbers places sets r numbers places sets
  unfolding replayed
  replays_refused f none =
      let g = rw e at (ne_eqb v.number 0 f) in
      record {
        answer = rw (none, e, g);
        numbered = rw g;
        placed = rw g;
        sets_filled = rw g;
        faithful = λ ok. claim p c ok reports;
      }

  pub replays_whole : v.number ≡ 0 → {t : Ticked} → t ≡ started p c → {s : State} {numbers' places' sets' : List ℕ}
      → (s, (numbers', (places', sets'))) ≡ after_each t.state reports numbers places sets
      → Replays p c reports numbers places sets (record { number = 0; place = 0; started = t.started; state = s })
      numbers' places' sets'
  unfolding replayed
  replays_whole ok opened ticks =
      let g = rw e at (eq-eqb v.number 0 ok) in
      let ran = rw opened at ticks in
      record {
        answer = rw (ap (λ (x : Outcome). x.0) ran, opened, g);
        numbered = rw g (ap (λ (x : Outcome). x.1.0) ran);
        placed = rw g (ap (λ (x : Outcome). x.1.1.0) ran);
        sets_filled = rw g (ap (λ (x : Outcome). x.1.1.1) ran);
        faithful = λ ok. claim p c ok reports;
      }
