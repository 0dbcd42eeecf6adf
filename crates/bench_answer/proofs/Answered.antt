-- From what is read and what is written to the answer. 19 never comes: what is shown fits. Assumes nothing.
use mathlib.Core.Path.{◌≡◌, refl, sym, ap, ◌∙◌}
use mathlib.Core.List.{List}
use mathlib.Core.Logic.{⊎_elim}
use denote.Ref.{MutBor}
use Prim.Native.Nat.{ℕ, ◌≤◌}
use native.Mathlib.Omega.{arith}
use borrow.Author.Tests.{eq-eqb, ne_eqb}
use lib.ListN.{length}
use Rattle.plan.specs.declared.Plan.{Plan}
use Rattle.plan.specs.declared.Constraint.{Constraint}
use Rattle.plan.specs.declared.Verdict.{Verdict}
use Rattle.plan.specs.Refusals.{no_refusal, first_refusal}
use Rattle.plan.specs.Buffers.{at_start}
use Rattle.plan_text.specs.declared.Answer.{Answer}
use Rattle.simulation.proofs.Ran.{first_taken}
use Rattle.table_lines.specs.declared.Written.{Written}
use Rattle.table_lines.specs.Texts.{answered, bytes_after}
use Rattle.table_lines.specs.Refusal.{refusal_line, line_written, line_after}
use Rattle.table_lines.proofs.Outcomes.{refuses, fits, refusal_longest}
use Rattle.bench_answer.specs.Answer.{or_refused}
use Rattle.bench_answer.specs.Steps.{Lined, Answered}

-- n bytes are answered, the text's, and the lent bytes b are b₁ afterwards: the text stands at their start
abbrev pub Answers : List ℕ → List ℕ → ℕ → List ℕ → Type 0
Answers text b n b₁ = (n ≡ length text) × (b₁ ≡ at_start text b)

-- ---- the answer to what is read, with what is shown where nothing is refused, in bytes enough for a refusal's line

module _ (a : Answer) (v : Verdict) (shown b : List ℕ) (enough : 50 ≤ length b) where
  abbrev Gives : ℕ → List ℕ → Type 0
  Gives = Answers (or_refused a v shown) b

  by_text : {t b₁ : List ℕ} {n : ℕ} → or_refused a v shown ≡ t → Answers t b n b₁ → Gives n b₁
  by_text f h = (h.0 ∙ ap length (sym f), h.1 ∙ ap (λ (t : List ℕ). at_start t b) (sym f))

  -- the line of a refusal fits
  by_line : (number place : ℕ) {n : ℕ} {b₁ : List ℕ}
      → or_refused a v shown ≡ refusal_line number place → Lined number place b n b₁ → Gives n b₁
  unfolding line_written line_after
  by_line number place f h =
      let o = fits no_refusal (refusal_line number place) b refl (omega (arith, refusal_longest number place)) in
      by_text f (h.0 ∙ sym (ap (λ (w : Written). w.written) o.answer), h.1 ∙ sym o.bytes)

  unread : {n : ℕ} {b₁ : List ℕ} → (a.number ≡ 0 → ⊥) → Lined a.number a.place b n b₁ → Gives n b₁
  unfolding or_refused first_refusal
  unread f h = let e = ne_eqb a.number 0 f in by_line _ _ (rw (e, e)) h

  -- what is read is written, or refused: w is answered, and the lent bytes are b₁
  module _ (z : a.number ≡ 0) (room : v.number ≡ 0 → length shown ≤ length b) {w : Written} {b₁ : List ℕ}
      (wrote : (w ≡ answered v shown (length b))
      × (b₁ ≡ bytes_after v shown b)) where
    -- what is not refused is written
    all_fits : v.number ≡ 0 → (w ≡ record { number = 0; place = 0; written = length shown }) × (b₁ ≡ at_start shown b)
    all_fits q =
        let o = fits v shown b q (room q) in
        (wrote.0 ∙ sym o.answer, wrote.1 ∙ sym o.bytes)

    refuses_it : {n : ℕ} {b₂ : List ℕ} → (w.number ≡ 0 → ⊥) → Lined w.number w.place b₁ n b₂ → Gives n b₂
    unfolding or_refused first_refusal
    refuses_it f h =
        let g : v.number ≡ 0 → ⊥ = λ q. f (ap (λ (r : Written). r.number) (all_fits q).0) in
        let o = refuses v shown b g in
        by_line _ _ (rw (eq-eqb a.number 0 z, ne_eqb v.number 0 g))
        (rw (wrote.0 ∙ sym o.answer, wrote.1 ∙ sym o.bytes) at h)

    shows_it : w.number ≡ 0 → Gives w.written b₁
    unfolding or_refused first_refusal
    shows_it f =
        let q = first_taken v _ (sym (ap (λ (r : Written). r.number) wrote.0) ∙ f) in
        let o = all_fits q in
        by_text {t = shown} (rw (eq-eqb a.number 0 z, eq-eqb v.number 0 q))
        (ap (λ (r : Written). r.written) o.0, o.1)

  -- from what the one function for all three answers tells, where a call writes this or refuses it
  pub by_table : (v.number ≡ 0 → length shown ≤ length b)
      → (post : Plan → Constraint → MutBor (List ℕ) → Written → MutBor (List ℕ) → Type 0) {n : ℕ} {b₁ : List ℕ} → Answered post a b n b₁
      → ((lent left : MutBor (List ℕ)) (w : Written) → post a.plan a.constraint lent w left
      → (w ≡ answered v shown (length lent.now)) × (left.now ≡ bytes_after v shown lent.now)) → Gives n b₁
  by_table room post answer wrote =
      ⊎_elim (λ h. unread h.0 h.1)
      (λ h. let q = rw h.4 at (wrote h.2 h.3 h.1 h.5) in
      ⊎_elim (λ k. refuses_it h.0 room q k.0 k.1) (λ k. rw (k.1, k.2) (shows_it h.0 room q k.0)) h.6) answer.by
