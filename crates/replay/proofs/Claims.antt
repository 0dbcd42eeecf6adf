-- The one claim about a list of ticks: its states stand for the journal's notes, its answers are the journal's. Assumes nothing.
use mathlib.Core.Path.{◌≡◌, refl, sym, ap, ap₂, ◌∙◌, subst, fun_ext}
use mathlib.Core.Bool.{Bool, true, false, cond, and-not_self}
use mathlib.Core.List.{List, [], ◌∷◌}
use Prim.Native.Nat.{ℕ, ◌<◌}
use native.Mathlib.Omega.{arith}
use borrow.Author.Tests.{eqb-true}
use lib.Dec.{eqb, ltb}
use Rattle.task_set.specs.Bounded.{first}
use Rattle.task_set.specs.Sets.{width, has, set_of}
use Rattle.plan.specs.declared.Plan.{Plan}
use Rattle.plan.specs.declared.Constraint.{Constraint}
use Rattle.plan.specs.declared.Verdict.{Verdict}
use Rattle.plan.specs.Refusals.{refused, unless_at, first_refusal, verdict}
use Rattle.runs.specs.Running.{Notes, has_started, blank, opening, step, worst, timed, over}
use Rattle.runs.specs.Progress.{stage, as_far}
use Rattle.runs.specs.Journal.{Answer, idle, overdue, refusal, hear, newly_started, answer, opening_answer, notes_from}
use Rattle.runs.specs.Journal.{answers_from, journal, answers, accepted_count}
use Rattle.runs.proofs.Theorems as theorems
use Rattle.live.specs.declared.Ticked.{Ticked}
use Rattle.live.specs.States.{notes_of, state_of}
use Rattle.live.specs.Soundness.{is_sound}
use Rattle.live.specs.Ticks.{moved, stayed, started, tick_verdict, ticked}
use Rattle.live.proofs.Following.{Stands, stands}
use Rattle.live.proofs.SoundStates.{state_sound}
use Rattle.replay.specs.Lists.{said, state_after, said_after, Claim}

-- ---- a report

-- an accepted report has the place 0
abbrev Plain : Verdict → Type 0
Plain v = v.number ≡ 0 → v.place ≡ 0

plain_cond : (b : Bool) (number place : ℕ) (rest : Verdict) → 0 < number → Plain rest → Plain (cond b (refused number place) rest)
plain_cond true number place rest l h e = absurd (omega arith)
plain_cond false number place rest l h e = h e

plain_unless : (number n : ℕ) (fault : ℕ → Bool) (rest : Verdict) → 0 < number → Plain rest → Plain (unless_at number n fault rest)
unfolding unless_at
plain_unless number n fault = plain_cond (ltb (first n fault) n) number (first n fault)

plain_refusal : (p : Plan) (c : Constraint) (n : Notes) (report : ℕ) → Plain (refusal p c n report)
unfolding refusal
plain_refusal p c n report =
    plain_cond (over p n) 13 0 _ (omega arith)
    (plain_unless 16 width (overdue p c n report) _ (omega arith)
    (plain_unless 14 width (idle n report) _ (omega arith) (λ e. refl)))

-- notes that stay start nothing
pub nothing_new : (n : Notes) → newly_started n n ≡ 0
unfolding newly_started set_of
nothing_new n = ap (set_of width) (fun_ext (λ t. and-not_self (has_started n t)))

module _ (p : Plan) (c : Constraint) where
  -- the state that stands for the notes gives them back, and is sound
  abbrev Holds : Notes → Type 0
  Holds n = (notes_of (state_of p c n) ≡ n) × (is_sound (state_of p c n) ≡ true)

  -- what the journal answers, with the state that stands for the notes that it then has
  abbrev heard : Notes → ℕ → Ticked
  heard n report =
      let a = answer p c n report in
      record { number = a.number; place = a.place; started = a.started; state = state_of p c (hear p c n report) }

  module _ (n : Notes) (h : Holds n) (report : ℕ) where
    -- the tick never answers 12
    same_verdict : tick_verdict (state_of p c n) report ≡ refusal p c n report
    unfolding tick_verdict first_refusal state_of
    same_verdict = rw h.1 (ap (λ (m : Notes). refusal p c m report) h.0)

    tick_heard : ticked (state_of p c n) report ≡ heard n report
    unfolding ticked answer hear state_of
    tick_heard =
        ap₂ (λ (v : Verdict) (m : Notes).
        cond (eqb v.number 0) (moved p c m (step p c (has report) m)) (stayed v (state_of p c n))) same_verdict h.0
        ∙ go (eqb v.number 0) refl
      where
        v : Verdict
        v = refusal p c n report

        next : Bool → Notes
        next b = cond b (step p c (has report) n) n

        go : (b : Bool) → eqb v.number 0 ≡ b → cond b (moved p c n (step p c (has report) n)) (stayed v (state_of p c n))
            ≡ record { number = v.number; place = v.place; started = newly_started n (next b); state = state_of p c (next b) }
        go true e = let z = eqb-true v.number 0 e in rw (z, plain_refusal p c n report z)
        go false e = rw (nothing_new n)

  -- ---- a list of reports

  -- so does the state of the notes n, and of those that any further reports lead to
  abbrev Standing : Notes → Type 0
  Standing n = (more : List ℕ) → Holds (notes_from p c n more)

  follows : (reports : List ℕ) (n : Notes) → Standing n
      → (state_after (state_of p c n) reports ≡ state_of p c (notes_from p c n reports))
      × (said_after (state_of p c n) reports ≡ answers_from p c n reports)
  unfolding state_after said_after answers_from notes_from
  follows [] n h = (refl, refl)
  follows (report ∷ rest) n h =
      let ih = follows rest (hear p c n report) (λ more. h (report ∷ more)) in
      let e = tick_heard n (h []) report in (
        ap (λ (r : Ticked). state_after r.state rest) e ∙ ih.0,
        ap (λ (r : Ticked). said r ∷ said_after r.state rest) e ∙ ap (λ (l : List Answer). answer p c n report ∷ l) ih.1,
      )

  module _ (ok : (verdict p c).number ≡ 0) where
    holds : (reports : List ℕ) → Holds (journal p c reports)
    holds reports =
        let run = theorems.notes_run p c ok reports in
        let h = stands p c ok reports in
        let allowed = theorems.notes_allowed p c ok reports in
        (h.back, rw run (state_sound p c ok _ allowed _ (theorems.few p c ok reports) (subst (Stands p c) run h)))

    start_moves : started p c ≡ moved p c blank (opening p c)
    unfolding started
    start_moves = rw ok

    -- start and the list, from the state that start gives
    begins : (reports : List ℕ)
        → (state_after (started p c).state reports ≡ state_of p c (journal p c reports))
        × (said_after (started p c).state reports ≡ answers p c reports)
    unfolding answers journal
    begins reports = rw start_moves (follows reports (opening p c) holds)

pub claim : Claim
unfolding opening_answer
claim p c ok reports =
    let ran = begins p c ok reports in
    let notes = ap notes_of ran.0 ∙ (holds p c ok reports).0 in
    record {
      opened = ap said (start_moves p c ok);
      answered = ran.1;
      state = ran.0;
      times = rw notes (theorems.notes_allowed p c ok reports);
      ahead = λ t l.
          ap₂ (λ (n : Notes) (k : ℕ). as_far (stage p (worst p c) n t) (stage p (worst p c) (timed p c (worst p c) k) t))
          notes (ap accepted_count ran.1)
          ∙ theorems.ahead p c ok reports t l;
      few = rw ran.1 (theorems.few p c ok reports);
      last = λ e. ap (over p) notes ∙ theorems.last p c ok reports (ap accepted_count (sym ran.1) ∙ e);
      bounded = theorems.bound_sum p c ok;
    }
