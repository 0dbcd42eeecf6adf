-- The numbers of a line without fault 3 are in range. Assumes nothing.
use mathlib.Core.Path.{◌≡◌, sym, ap, ◌∙◌}
use mathlib.Core.Bool.{false}
use Prim.Native.Nat.{ℕ, ◌<◌}
use native.Mathlib.Omega.{arith}
use borrow.Author.Tests.{ltb-true, not-false}
use Rattle.task_set.proofs.Truth.{and_left, and_right}
use Rattle.plan.specs.Rules.{most_types, most_tasks, most_pairs, pair_index, pair_place}
use Rattle.plan.proofs.Pairs.{place_is}
use Rattle.text_form.specs.declared.Line.{Line}
use Rattle.text_form.specs.declared.Line.TheVariants.{Times, Arrow, Choice}
use Rattle.text_range.specs.Ranges.{is_type, is_task, out_of_range}

module _ {line : Line} (e : out_of_range line ≡ false) where
  in_range : {m : Line} → line ≡ m → out_of_range m ≡ false
  in_range f = sym (ap out_of_range f) ∙ e

  pub times_pair : {t k b w : ℕ} → line ≡ Times t k b w → (t < most_tasks) × (k < most_types)
  times_pair {t} {k} f =
      let g = not-false _ (in_range f) in
      (ltb-true t most_tasks (and_left (is_task t) _ g), ltb-true k most_types (and_left (is_type k) _ (and_right (is_task t) _ g)))

  -- where they lie
  pub times_place : {t k b w i : ℕ} → line ≡ Times t k b w → i ≡ pair_place t k → (i ≡ pair_index t k) × (i < most_pairs)
  times_place f g =
      let q = times_pair f in
      let h = g ∙ place_is _ _ q.0 q.1 in
      (h, omega (arith, h, q))

  pub arrow_to : {from to : ℕ} → line ≡ Arrow from to → to < most_tasks
  arrow_to {from} {to} f = ltb-true to most_tasks (and_right (is_task from) _ (not-false _ (in_range f)))

  pub choice_task : {t k : ℕ} → line ≡ Choice t k → t < most_tasks
  choice_task {t} f = ltb-true t most_tasks (and_left (is_task t) _ (not-false _ (in_range f)))
