-- The least slack of the tasks with a deadline, as the loop finds it: the lowest of the least so far. Assumes nothing.
use mathlib.Core.Path.{◌≡◌, refl, sym, ap, ap₂, subst, ◌∙◌}
use mathlib.Core.Bool.{Bool, true, false, not}
use mathlib.Core.List.{List}
use Rattle.std.proofs.Common.{Option, None, Some}
use Prim.Native.Nat.{ℕ, ◌+◌, ◌≤◌, ◌<◌}
use native.Mathlib.Nat.{le_of_lt, lt_of_lt_of_le}
use native.Mathlib.Omega.{arith}
use borrow.Author.Count.{below_more}
use lib.Dec.{T, ltb→lt, le→leb}
use lib.IntN.{ℤ, pos, negsuc}
use lib.Signed.{lt_z, le_z, ◌≤ℤ◌, ◌<ℤ◌, lt_z_no, le_z_yes, ≤ℤ_refl, <ℤ-≤ℤ_trans, clash_ℤ}
use Rattle.task_set.proofs.Truth.{clash, off, and_left, and_right, and_both, implies_intro, implies_elim}
use Rattle.task_set.proofs.Bounded.{all_intro, all_elim, any_intro, any_none}
use Rattle.task_set.proofs.Search.{First, first_unique}
use Rattle.plan.specs.Rules.{most_tasks}
use Rattle.slack.specs.Margins.{is_due, slack_at, is_tightest, tightest, tightest_task}

-- ---- the order of integers, from a test and to one

passed : {a b : ℤ} → le_z a b ≡ true → a ≤ℤ b
passed e = le_z_yes (subst T (sym e) tt)

less : {a b : ℤ} → lt_z a b ≡ true → a <ℤ b
less e = record { lt = subst T (sym e) tt }

not_less : {a b : ℤ} → lt_z a b ≡ false → b ≤ℤ a
not_less e = lt_z_no (subst (λ (x : Bool). T (not x)) (sym e) tt)

test : (x : Bool) → T x → x ≡ true
test true t = refl
test false t = absurd t

weaken : (a b : ℤ) → a <ℤ b → a ≤ℤ b
weaken a b l = le_z_yes (go a b l.lt)
  where
    go : (a b : ℤ) → T (lt_z a b) → T (le_z a b)
    go (pos a) (pos b) t = le→leb a b (le_of_lt (ltb→lt a b t))
    go (pos a) (negsuc b) t = t
    go (negsuc a) (pos b) t = tt
    go (negsuc a) (negsuc b) t = le→leb b a (le_of_lt (ltb→lt b a t))

pub apart : {r : Option (ℕ × ℤ)} {b : ℕ × ℤ} → r ≡ None → r ≡ Some b → ⊥
apart e f = cc

pub same : {r : Option (ℕ × ℤ)} {b c : ℕ × ℤ} → r ≡ Some b → r ≡ Some c → b ≡ c
same e f = cc

module _ (deadlines : List ℕ) (slacks : List ℤ) where
  abbrev pub due : ℕ → Bool
  due = is_due deadlines

  abbrev pub slack : ℕ → ℤ
  slack = slack_at slacks

  -- of the tasks before t, `found` is the lowest with the least slack, `least`
  pub record Best (t found : ℕ) (least : ℤ) : Type 0 where
    pub before : found < t
    pub has : due found ≡ true
    pub is : least ≡ slack found
    pub most : (u : ℕ) → u < t → due u ≡ true → least ≤ℤ slack u
    pub lowest : (u : ℕ) → u < found → due u ≡ true → least <ℤ slack u

  -- and there is none where none has a deadline
  abbrev pub SoFar : ℕ → Option (ℕ × ℤ) → Type 0
  SoFar t None = (u : ℕ) → u < t → due u ≡ false
  SoFar t (Some best) = Best t best.0 best.1

  pub record Found (t : ℕ) (best : Option (ℕ × ℤ)) : Type 0 where
    pub within : t ≤ most_tasks
    pub so_far : SoFar t best

  -- task t takes the place of none, or of the best so far
  module _ {t : ℕ} (l : t < most_tasks) (here : due t ≡ true) where
    made : ((u : ℕ) → u < t → due u ≡ true → slack t <ℤ slack u) → Found (t + 1) (Some (t, slack t))
    made h =
        record {
          within = omega arith;
          so_far = record {
            before = omega arith;
            has = here;
            is = refl;
            most = below_more (λ (u : ℕ). due u ≡ true → slack t ≤ℤ slack u) t (λ u m d. weaken _ _ (h u m d))
                (λ d. ≤ℤ_refl (slack t));
            lowest = h;
          };
        }

    pub found_new : (best : Option (ℕ × ℤ)) → Found t best → ((b : ℕ × ℤ) → best ≡ Some b → lt_z (slack t) b.1 ≡ true)
        → Found (t + 1) (Some (t, slack t))
    found_new None f h = made (λ u m d. absurd (clash d (f.so_far u m)))
    found_new (Some b) f h = made (λ u m d. <ℤ-≤ℤ_trans (less (h b refl)) (f.so_far.most u m d))

  -- or not
  pub found_kept : {t : ℕ} (l : t < most_tasks) (best : Option (ℕ × ℤ)) → Found t best
      → (due t ≡ true → (b : ℕ × ℤ) × (best ≡ Some b) × (lt_z (slack t) b.1 ≡ false)) → Found (t + 1) best
  found_kept {t} l None f h = record {
    within = omega arith;
    so_far = below_more (λ (u : ℕ). due u ≡ false) t f.so_far (off (due t) (λ d. apart refl (h d).1));
  }
  found_kept {t} l (Some b) f h =
      let s = f.so_far in
      record {
        within = omega arith;
        so_far = record {
          before = omega (arith, s.before);
          has = s.has;
          is = s.is;
          most = below_more (λ (u : ℕ). due u ≡ true → b.1 ≤ℤ slack u) t s.most
              (λ d. let k = h d in not_less (rw (sym (same refl k.1)) at k.2));
          lowest = s.lowest;
        };
      }

  -- ---- the last one

  first_best : {t found : ℕ} {least : ℤ} → t ≤ most_tasks → most_tasks ≤ t → Best t found least
      → First most_tasks (is_tightest deadlines slacks) found
  unfolding is_tightest
  first_best {found = found} w l b =
      record {
        searched = record {
          within = omega (arith, b.before);
          before = λ u m. off _ (λ e.
              clash_ℤ (rw b.is at (b.lowest u m (and_left (due u) _ e)))
              (passed (implies_elim (due found) _
              (all_elim most_tasks _ (and_right (due u) _ e) found (omega (arith, b.before))) b.has)));
        };
        passes = λ m. and_both b.has
            (all_intro most_tasks _
            (λ u k. implies_intro (due u) (λ d. test _ (rw b.is at (b.most u (lt_of_lt_of_le k l) d)).le)));
      }

  pub found_end : {t : ℕ} (best : Option (ℕ × ℤ)) → most_tasks ≤ t → Found t best → best ≡ tightest_task deadlines slacks
  unfolding tightest_task tightest
  found_end None l f = rw (any_none most_tasks due (λ u m. f.so_far u (lt_of_lt_of_le m l))) refl
  found_end (Some b) l f =
      let s = f.so_far in
      let e = first_unique most_tasks _ b.0 (first_best f.within l s) in
      rw (any_intro most_tasks due b.0 (omega (arith, s.before, f.within)) s.has)
      (ap₂ (λ (x : ℕ) (y : ℤ). Some (x, y)) e (s.is ∙ ap slack e))
