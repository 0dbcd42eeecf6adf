-- A live run that has ended stays ended: each further report is answered 13, place 0, the empty set, and changes nothing.
-- Assumes nothing.
use mathlib.Core.Path.{◌≡◌, refl, sym, ap, ◌∙◌}
use mathlib.Core.Bool.{true}
use mathlib.Core.List.{List, [], ◌∷◌, ◌++◌, map}
use Prim.Native.Nat.{ℕ}
use Rattle.plan.specs.declared.Plan.{Plan}
use Rattle.plan.specs.declared.Constraint.{Constraint}
use Rattle.plan.specs.Refusals.{verdict}
use Rattle.runs.specs.Running.{Notes, opening, over}
use Rattle.runs.specs.Journal.{Answer, refusal, hear, answer, notes_from, answers_from, journal, answers}
use Rattle.live.specs.States.{state_of}
use Rattle.live.specs.Ticks.{started}
use Rattle.replay.specs.Lists.{state_after, said_after}
use Rattle.replay.proofs.Claims.{nothing_new, claim}

-- 13, "all tasks finished"
abbrev pub ended_answer : Answer
ended_answer = record { number = 13; place = 0; started = 0 }

module _ (p : Plan) (c : Constraint) where
  -- ---- notes that are over

  module _ (n : Notes) (e : over p n ≡ true) where
    heard_nothing : (report : ℕ) → hear p c n report ≡ n
    unfolding hear refusal
    heard_nothing report = rw e refl

    answered_ended : (report : ℕ) → answer p c n report ≡ ended_answer
    unfolding answer refusal
    answered_ended report = rw (heard_nothing report, nothing_new n, e) refl

    notes_stay : (reports : List ℕ) → notes_from p c n reports ≡ n
    unfolding notes_from
    notes_stay [] = refl
    notes_stay (report ∷ rest) = rw (heard_nothing report) (notes_stay rest)

    answers_stay : (reports : List ℕ) → answers_from p c n reports ≡ map (λ report. ended_answer) reports
    unfolding answers_from
    answers_stay [] = refl
    answers_stay (report ∷ rest) = rw (heard_nothing report, answered_ended report, answers_stay rest) refl

  -- ---- a list, and then a further one

  notes_further : (reports more : List ℕ) (n : Notes)
      → notes_from p c n (reports ++ more) ≡ notes_from p c (notes_from p c n reports) more
  unfolding notes_from
  notes_further [] more n = refl
  notes_further (report ∷ rest) more n = notes_further rest more (hear p c n report)

  answers_further : (reports more : List ℕ) (n : Notes)
      → answers_from p c n (reports ++ more) ≡ answers_from p c n reports ++ answers_from p c (notes_from p c n reports) more
  unfolding answers_from notes_from
  answers_further [] more n = refl
  answers_further (report ∷ rest) more n =
      ap (λ (l : List Answer). answer p c n report ∷ l) (answers_further rest more (hear p c n report))

  module _ (reports : List ℕ) (ended : over p (journal p c reports) ≡ true) (more : List ℕ) where
    -- the journal: its notes stay, and it answers 13 to each further report
    pub journal_ended : journal p c (reports ++ more) ≡ journal p c reports
    unfolding journal
    journal_ended = notes_further reports more (opening p c) ∙ notes_stay _ ended more

    pub answers_ended : answers p c (reports ++ more) ≡ answers p c reports ++ map (λ report. ended_answer) more
    unfolding answers journal
    answers_ended =
        answers_further reports more (opening p c)
        ∙ ap (λ (l : List Answer). answers p c reports ++ l) (answers_stay _ ended more)

    -- the ticks, by the one claim: so does the state, and so do they
    module _ (ok : (verdict p c).number ≡ 0) where
      pub state_ended : state_after (started p c).state (reports ++ more) ≡ state_after (started p c).state reports
      state_ended =
          (claim p c ok (reports ++ more)).state ∙ ap (state_of p c) journal_ended ∙ sym (claim p c ok reports).state

      pub said_ended : said_after (started p c).state (reports ++ more)
          ≡ said_after (started p c).state reports ++ map (λ report. ended_answer) more
      said_ended =
          (claim p c ok (reports ++ more)).answered ∙ answers_ended
          ∙ ap (λ (l : List Answer). l ++ map (λ report. ended_answer) more) (sym (claim p c ok reports).answered)
