-- What the inner functions write and answer. No promise of a public function cites it. Assumes nothing.
use Rattle.std.specs.Prelude.{◌≡◌, cond, List, ℕ, ◌+◌, ◌≤◌, ◌<◌, ltb, length, Result, Ok, Err}
use Rattle.std.specs.Borrow.{MutBor}
use Rattle.std.proofs.lemmas.List.Edits.{sets}
use Rattle.plan.specs.declared.Verdict.{Verdict}
use Rattle.plan.specs.Refusals.{refused, no_refusal}
use Rattle.table_lines.specs.declared.Written.{Written}
use Rattle.table_lines.specs.Texts.{answered, bytes_after}

-- the buffer has room for a text from `at` on
pub record Room (buffer : List ℕ) (at : ℕ) (text : List ℕ) : Type 0 where
  pub fits : at + length text ≤ length buffer

-- the text stands in the buffer from `at` on, and no other byte is changed; `next` is the place after it
pub record Put (buffer : List ℕ) (at : ℕ) (text changed : List ℕ) (next : ℕ) : Type 0 where
  pub bytes : changed ≡ sets buffer at text
  pub end : next ≡ at + length text

-- calls that do this write the texts of the numbers below n, each from a place on, and answer the place after it
abbrev pub Writes : (ℕ → List ℕ) → ℕ → (MutBor (List ℕ) → ℕ → ℕ → ℕ → MutBor (List ℕ) → Type 0) → Type 0
Writes text n post = (b c : MutBor (List ℕ)) (at i k : ℕ) → i < n → post b at i k c → Put b.now at (text i) c.now k

-- "buffer shorter than needed, place the bytes needed"
abbrev pub lacking : ℕ → ℕ → Verdict
lacking needed room = cond (ltb room needed) (refused 19 needed) no_refusal

-- the bytes written, or a refusal, as they are answered
abbrev pub written_of : Result ℕ Verdict → Written
written_of (Ok n) = record { number = 0; place = 0; written = n }
written_of (Err v) = record { number = v.number; place = v.place; written = 0 }

-- r is found and the buffer is changed, where v refuses or the text is to be written
pub record Outcome (v : Verdict) (text buffer : List ℕ) (r : Result ℕ Verdict) (changed : List ℕ) : Type 0 where
  pub answer : written_of r ≡ answered v text (length buffer)
  pub bytes : changed ≡ bytes_after v text buffer
