-- What a line without a fault adds: to each thing that is kept, by the one kind of line that adds to it (document 01, "The plan text").
-- Assumes nothing.
use Rattle.std.specs.Prelude.{Bool, cond, List, [], ◌∷◌, ℕ, ◌+◌, eqb, get_or, set}
use Rattle.task_set.specs.Sets.{insert}
use Rattle.text_form.specs.declared.Line.{Line}
use Rattle.text_form.specs.declared.Line.TheVariants.{Units, Times, Arrow, Deadline, Release, Choice}
use Rattle.text_fault.specs.declared.Kind.{Kind}
use Rattle.text_fault.specs.Faults.{kind_rank, kind_of}

-- number i of a line, from 0 on, in the order of its fields
abbrev pub number : Line → ℕ → ℕ
number (Units k n) i = get_or (k ∷ n ∷ []) i 0
number (Times t k b w) i = get_or (t ∷ k ∷ b ∷ w ∷ []) i 0
number (Arrow from to) i = get_or (from ∷ to ∷ []) i 0
number (Deadline t d) i = get_or (t ∷ d ∷ []) i 0
number (Release t s) i = get_or (t ∷ s ∷ []) i 0
number (Choice t k) i = get_or (t ∷ k ∷ []) i 0

module _ (line : Line) where
  abbrev pub is_kind : Kind → Bool
  is_kind kind = eqb (kind_rank (kind_of line)) (kind_rank kind)

  -- how many lines of a kind there are, the tasks that such lines name first, and a list with an entry set by such a line
  abbrev pub counted : Kind → ℕ → ℕ
  counted kind n = cond (is_kind kind) (n + 1) n

  abbrev pub named : Kind → ℕ → ℕ
  named kind tasks = cond (is_kind kind) (insert tasks (number line 0)) tasks

  abbrev pub stored : Kind → List ℕ → ℕ → ℕ → List ℕ
  stored kind l i v = cond (is_kind kind) (set l i v) l
