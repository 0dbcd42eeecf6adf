-- What is answered and written, branch by branch. Assumes nothing.
use mathlib.Core.Path.{◌≡◌, refl, sym, ap, ◌∙◌, subst}
use mathlib.Core.List.{List, ◌++◌}
use Rattle.std.proofs.Common.{Result, Ok, Err}
use Prim.Native.Nat.{ℕ, ◌+◌, ◌≤◌, ◌<◌}
use native.Mathlib.Nat.{zero-add}
use native.Mathlib.Omega.{arith}
use lib.Dec.{ltb}
use Rattle.task_set.proofs.Truth.{by_test}
use borrow.Author.Tests.{eqb-false, ltb-true, ltb-false, eq-eqb, ne_eqb, lt-ltb, le-ltb}
use lib.ListN.{length, drop, length-append}
use lib.Seq.{sets-eq}
use Rattle.plan.specs.declared.Verdict.{Verdict}
use Rattle.plan.specs.Refusals.{refused, no_refusal, first_refusal, as_result}
use Rattle.plan.proofs.Refusing.{as_ok, as_err}
use Rattle.plan.specs.Buffers.{at_start}
use Rattle.table_lines.specs.declared.Written.{Written}
use Rattle.table_lines.specs.Decimal.{decimal}
use Rattle.table_lines.specs.Texts.{answered, bytes_after}
use Rattle.table_lines.specs.Refusal.{refusal_line, line_written, line_after}
use Rattle.table_lines.specs.Steps.{Room, Put, lacking, written_of, Outcome}
use Rattle.table_lines.proofs.Digits.{decimal_longest}

module _ (v : Verdict) (text b : List ℕ) where
  pub refuses : (v.number ≡ 0 → ⊥) → Outcome v text b (Err v) b
  unfolding first_refusal
  refuses f = let e = ne_eqb v.number 0 f in record { answer = rw (e, e); bytes = rw (e, e) }

  module _ (e : v.number ≡ 0) where
    pub too_short : {n : ℕ} → n ≡ length text → length b < n → Outcome v text b (Err (refused 19 n)) b
    unfolding first_refusal
    too_short f l = record { answer = rw (eq-eqb _ _ e, ← f, lt-ltb _ _ l); bytes = rw (eq-eqb _ _ e, ← f, lt-ltb _ _ l) }

    pub fits : length text ≤ length b
        → Outcome v text b (Ok (length text)) (at_start text b)
    unfolding first_refusal
    fits l = let f = le-ltb (length b) (length text) l in record { answer = rw (eq-eqb _ _ e, f); bytes = rw (eq-eqb _ _ e, f) }

    pub writes : {b₁ : List ℕ} {n : ℕ} → Room b 0 text → Put b 0 text b₁ n
        → Outcome v text b (Ok n) b₁
    writes r p =
        let z = zero-add (length text) in
        let o = fits (omega arith) in
        record {
          answer = ap (λ (k : ℕ). record { number = 0; place = 0; written = k }) (p.end ∙ z) ∙ o.answer;
          bytes = p.bytes ∙ sets-eq text b 0 r.fits ∙ ap (λ (k : ℕ). text ++ drop k b) z ∙ o.bytes;
        }

-- ---- the run's refusal, then 19, then what is written, from what `accepted` and `fits` found

module _ (v : Verdict) (text b : List ℕ) {r : Result (Unit {0}) Verdict} (e : r ≡ as_result v) where
  pub stops : {w : Verdict} → r ≡ Err w → Outcome v text b (Err w) b
  stops f = let s = as_err v (sym f ∙ e) in rw s.0 (refuses v text b (eqb-false v.number 0 s.1))

  module _ {u : Unit {0}} (f : r ≡ Ok u) {n : ℕ} (g : n ≡ length text) {q : Result (Unit {0}) Verdict}
      (h : q ≡ as_result (lacking n (length b))) where
    pub lacks : {w : Verdict} → q ≡ Err w → Outcome v text b (Err w) b
    lacks {w} i =
        let s = as_err (lacking n (length b)) (sym i ∙ h) in
        by_test (ltb (length b) n)
        (λ t. let j : w ≡ refused 19 n = rw t at s.0 in rw j (too_short v text b (as_ok v (sym f ∙ e)) g (ltb-true (length b) n t)))
        (λ t. absurd (eqb-false (lacking n (length b)).number 0 s.1 (rw t refl)))

    pub has_room : {w : Unit {0}} → q ≡ Ok w → Room b 0 text
    has_room i =
        let s = as_ok (lacking n (length b)) (sym i ∙ h) in
        by_test (ltb (length b) n) (λ t. absurd (omega (arith, rw t at s)))
        (λ t. record { fits = omega (arith, ltb-false (length b) n t) })

    pub put : {w : Unit {0}} {b₁ : List ℕ} {m : ℕ} → q ≡ Ok w → Put b 0 text b₁ m → Outcome v text b (Ok m) b₁
    put i p = writes v text b (as_ok v (sym f ∙ e)) (has_room i) p

-- what is answered for a result x with a verdict and a text, in the words of the promises
pub by_result : {X : Type 0} (verdict : X → Verdict) (text : X → List ℕ) {x y : X} {b b₁ : List ℕ} {r : Result ℕ Verdict} {w : Written}
    → x ≡ y → Outcome (verdict x) (text x) b r b₁ → w ≡ written_of r
    → (w ≡ answered (verdict y) (text y) (length b)) × (b₁ ≡ bytes_after (verdict y) (text y) b)
by_result verdict text {b = b} {b₁} {r} e o q =
    let z = subst (λ x. Outcome (verdict x) (text x) b r b₁) e o in (q ∙ z.answer, z.bytes)

-- ---- the line of a refusal

pub refusal_length : (number place : ℕ)
    → length (refusal_line number place) ≡ length (decimal number) + length (decimal place) + 10
unfolding refusal_line
refusal_length number place = simp length-append (omega arith)

pub refusal_longest : (number place : ℕ) → length (refusal_line number place) ≤ 50
refusal_longest number place = omega (arith, refusal_length number place, decimal_longest number, decimal_longest place)

pub line_short : (b line : List ℕ) → length b < length line → (0 ≡ line_written (length b) line) × (b ≡ line_after b line)
unfolding line_written line_after
line_short b line l = let o = too_short no_refusal line b refl refl l in (ap (λ (w : Written). w.written) o.answer, o.bytes)

pub line_put : {b line b₁ : List ℕ} {n : ℕ} → Room b 0 line → Put b 0 line b₁ n
    → (n ≡ line_written (length b) line) × (b₁ ≡ line_after b line)
unfolding line_written line_after
line_put {b} {line} r p = let o = writes no_refusal line b refl r p in (ap (λ (w : Written). w.written) o.answer, o.bytes)
