-- What the inner function writes and answers. No promise of a public function cites it. Assumes nothing.
use Rattle.std.specs.Prelude.{◌≡◌, ◌⊎◌, List, ℕ, length}
use denote.Ref.{MutBor}
use Rattle.plan.specs.declared.Plan.{Plan}
use Rattle.plan.specs.declared.Constraint.{Constraint}
use Rattle.plan_text.specs.declared.Answer.{Answer}
use Rattle.table_lines.specs.declared.Written.{Written}
use Rattle.table_lines.specs.Refusal.{refusal_line, line_written, line_after}

-- a refusal's line is put into the bytes b: n are written, and b₁ stand there afterwards
abbrev pub Lined : ℕ → ℕ → List ℕ → ℕ → List ℕ → Type 0
Lined number place b n b₁ =
    (n ≡ line_written (length b) (refusal_line number place)) × (b₁ ≡ line_after b (refusal_line number place))

-- w was answered, and b left: a refusal gets its line, and otherwise it stays so
abbrev pub Shown : Written → List ℕ → ℕ → List ℕ → Type 0
Shown w b n b₁ = ((w.number ≡ 0 → ⊥) × Lined w.number w.place b n b₁) ⊎ ((w.number ≡ 0) × (n ≡ w.written) × (b₁ ≡ b))

-- what is read gets the line of its refusal, or what a call that may end as `post` tells gives of its plan and its constraint
pub record Answered (post : Plan → Constraint → MutBor (List ℕ) → Written → MutBor (List ℕ) → Type 0) (a : Answer) (b : List ℕ) (n : ℕ)
    (b₁ : List ℕ) : Type 0 where
  pub by : ((a.number ≡ 0 → ⊥) × Lined a.number a.place b n b₁)
      ⊎ ((a.number ≡ 0) × (w : Written) × (lent : MutBor (List ℕ)) × (left : MutBor (List ℕ)) × (lent.now ≡ b)
      × post a.plan a.constraint lent w left × Shown w left.now n b₁)
