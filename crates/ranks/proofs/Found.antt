-- The table as ranks are found, and the numbers that fall from call to call. Assumes nothing.
use mathlib.Core.Path.{◌≡◌, refl, sym, ap, ap₂, ◌∙◌, subst}
use mathlib.Core.Bool.{Bool, true, cond, ◌&&◌, not, and-true, and-false}
use mathlib.Core.List.{List}
use mathlib.Core.Logic.{◌⊎◌, inl, inr, ⊎_elim, ∥∥₁_elim, ∥∥₁_map}
use Prim.Native.Nat.{ℕ, ◌+◌, ◌*◌, ◌-◌, ◌^◌, ◌≤◌, ◌<◌, zero-le, max}
use native.Mathlib.Nat.{lt_of_lt_of_le, le_refl, le_antisymm, ℕ_set}
use native.Mathlib.Omega.{arith}
use borrow.Author.Tests.{eq-eqb, ne_eqb, eqb-true, eqb-false, ltb-true, lt-ltb}
use lib.Dec.{eqb, ltb}
use lib.ListN.{length, get_or, set, length-set}
use lib.Seq.{get_or-set_same, get_or-set_other}
use Rattle.task_set.specs.Sets.{width, has, remove, set_of, lowest, size}
use Rattle.task_set.proofs.Truth.{by_test, and_left}
use Rattle.task_set.proofs.Members.{has_none, has_remove, has_set_of, lowest_low, lowest_member, fewer_left}
use Rattle.plan.specs.Rules.{most_tasks}
use Rattle.dispatch_theory.specs.Sums.{greatest}
use Rattle.dispatch_theory.proofs.Sums.{greatest_lub, greatest_cong, greatest_apart}
use Rattle.ranks_arrows.specs.Arrows.{arrow}
use Rattle.ranks_arrows.proofs.Orders.{Legal, place, place_low, place_later, lowest_first, lowest_first_legal}
use Rattle.ranks_arrows.proofs.Joining.{size_low}
use Rattle.ranks.specs.Ranks.{own_rank, rank_of}
use Rattle.ranks.specs.Steps.{Ready, Noted, Grown, RankFound, GreatestFound, AllTasks, greatest_in}
use Rattle.ranks.proofs.Equation.{most_own, own_most, rank_most, rank_is}

-- ---- what falls

pub falls_to : {a b t : ℕ} → a < b → b ≡ t → a < t
falls_to l e = rw (← e) l

-- more than the members of a set, so that one position counts for more than they
abbrev step : ℕ
step = width + 2

-- the positions from that of t on, in the legal order that takes the lowest task first
abbrev left : List ℕ → ℕ → ℕ → ℕ
left predecessors tasks t = tasks - place tasks (lowest_first (arrow predecessors) tasks) t

abbrev left_in : List ℕ → ℕ → ℕ → ℕ → ℕ
left_in predecessors tasks s u = cond (has s u) (left predecessors tasks u) 0

unfoldable pub task_left : List ℕ → ℕ → ℕ → ℕ
task_left predecessors tasks t = left predecessors tasks t * step

-- the positions from the first of a member on, and then the number of members; one more than that is for a look into the table
unfoldable pub set_left : List ℕ → ℕ → ℕ → ℕ
set_left predecessors tasks s = greatest tasks (left_in predecessors tasks s) * step + 1 + size s

module _ {wcet predecessors : List ℕ} {tasks : ℕ} (ready : Ready wcet predecessors tasks) where
  pub ordered : Legal (arrow predecessors) tasks (lowest_first (arrow predecessors) tasks)
  ordered = lowest_first_legal (arrow predecessors) tasks ready.straight

  has_successor : (t u : ℕ) → u < tasks → has (set_of tasks (arrow predecessors t)) u ≡ arrow predecessors t u
  has_successor t u l =
      has_set_of tasks (arrow predecessors t) u ready.known.few ∙ ap (λ (b : Bool). b && arrow predecessors t u) (lt-ltb u tasks l)

  pub successors_tasks : (t s : ℕ) → s ≡ set_of tasks (arrow predecessors t) → AllTasks tasks s
  successors_tasks t s q =
      record {
        each = λ u e.
            ltb-true u tasks
            (and_left (ltb u tasks) _ (sym (has_set_of tasks (arrow predecessors t) u ready.known.few) ∙ rw (← q) e));
      }

  -- from a task to its successors
  pub successors_fall : (t s : ℕ) → t < tasks → s ≡ set_of tasks (arrow predecessors t)
      → set_left predecessors tasks s < task_left predecessors tasks t
  unfolding task_left set_left
  successors_fall t s l q =
      go (greatest_lub tasks (left_in predecessors tasks s) (left predecessors tasks t - 1) each) (size_low s)
      (omega (arith, place_low ordered t l))
    where
      each : (u : ℕ) → u < tasks → left_in predecessors tasks s u ≤ left predecessors tasks t - 1
      each u m =
          by_test (has s u)
          (λ e. let f = place_later ordered t u l m (sym (has_successor t u m) ∙ rw (← q) e) in
          rw e (omega (arith, place_low ordered u m)))
          (λ e. rw e zero-le)

      go : {g n k : ℕ} → g ≤ k - 1 → n ≤ width → 0 < k → g * step + 1 + n < k * step
      go a b c = omega arith

-- from a set to its lowest member, and to the others
module _ {tasks s : ℕ} (fits : s < 2 ^ width) (some : s ≡ 0 → ⊥) (h : AllTasks tasks s) where
  abbrev t : ℕ
  t = lowest s

  abbrev others : ℕ
  others = remove s t

  member : has s t ≡ true
  member = lowest_member s fits some

  pub member_task : t < tasks
  member_task = h.each t member

  others_have : (i : ℕ) → has others i ≡ has s i && not (eqb t i)
  others_have i = has_remove s t i (lowest_low s fits some)

  -- a value of each member: the greatest is that of the lowest or of the others
  pub greatest_is : (f : ℕ → ℕ)
      → greatest tasks (λ u. cond (has s u) (f u) 0) ≡ max (f t) (greatest tasks (λ u. cond (has others u) (f u) 0))
  greatest_is f =
      greatest_apart tasks (λ u. cond (has s u) (f u) 0) (λ u. cond (has others u) (f u) 0) t member_task gone kept
      ∙ ap (λ (b : Bool). max (cond b (f t) 0) (greatest tasks (λ u. cond (has others u) (f u) 0))) member
    where
      gone : cond (has others t) (f t) 0 ≡ 0
      gone = rw (others_have t, eq-eqb t t refl, and-false (has s t)) refl

      kept : (i : ℕ) → i < tasks → (i ≡ t → ⊥) → cond (has s i) (f i) 0 ≡ cond (has others i) (f i) 0
      kept i l g = rw (others_have i, ne_eqb t i (λ e. g (sym e)), and-true (has s i)) refl

  module _ (predecessors : List ℕ) where
    split : greatest tasks (left_in predecessors tasks s)
        ≡ max (left predecessors tasks t) (greatest tasks (left_in predecessors tasks others))
    split = greatest_is (left predecessors tasks)

    pub member_falls : task_left predecessors tasks t + 1 < set_left predecessors tasks s
    unfolding task_left set_left
    member_falls = omega (arith, split, fewer_left s fits some)

    pub others_fall : set_left predecessors tasks others < set_left predecessors tasks s
    unfolding set_left
    others_fall = omega (arith, split, fewer_left s fits some)

  pub others_tasks : AllTasks tasks others
  others_tasks = record { each = λ u e. h.each u (and_left (has s u) _ (sym (others_have u) ∙ e)) }

-- ---- the table

module _ {wcet predecessors : List ℕ} {tasks : ℕ} where
  pub grown_none : {table : List ℕ} → Grown wcet predecessors tasks table table
  grown_none = record { long = refl; each = λ u. inl refl }

  pub grown_more : {a b c : List ℕ} → Grown wcet predecessors tasks a b → Grown wcet predecessors tasks b c
      → Grown wcet predecessors tasks a c
  grown_more f g =
      record {
        long = g.long ∙ f.long;
        each = λ u. ⊎_elim (λ e. ⊎_elim (λ d. inl (e ∙ d)) (λ d. inr (d.0, e ∙ d.1)) (f.each u)) (λ e. inr e) (g.each u);
      }

  pub noted_long : {table : List ℕ} → ∥ Noted wcet predecessors tasks table ∥₁ → length table ≡ most_tasks
  noted_long h = ∥∥₁_elim h (ℕ_set _ _) (λ f. f.long)

  pub noted_more : {a b : List ℕ} → ∥ Noted wcet predecessors tasks a ∥₁ → Grown wcet predecessors tasks a b
      → ∥ Noted wcet predecessors tasks b ∥₁
  noted_more {a} {b} h g = ∥∥₁_map h more
    where
      more : Noted wcet predecessors tasks a → Noted wcet predecessors tasks b
      more f =
          record {
            long = g.long ∙ f.long;
            each = λ u. ⊎_elim (λ e. ⊎_elim (λ d. inl (e ∙ d)) (λ d. inr (d.0, e ∙ d.1)) (f.each u)) (λ e. inr e) (g.each u);
          }

  -- what is known stays known
  pub known_more : {a b : List ℕ} (u : ℕ) → Grown wcet predecessors tasks a b → get_or a u 0 ≡ rank_of wcet predecessors tasks u
      → get_or b u 0 ≡ rank_of wcet predecessors tasks u
  known_more u g e = ⊎_elim (λ d. d ∙ e) (λ d. d.1) (g.each u)

  grown_set : (table : List ℕ) (t r : ℕ) → t < length table → t < tasks → r ≡ rank_of wcet predecessors tasks t
      → Grown wcet predecessors tasks table (set table t r)
  grown_set table t r h l e =
      record {
        long = length-set table t r;
        each = λ u. by_test (eqb u t) (here u) (λ f. inl (get_or-set_other table t u r 0 (eqb-false u t f)));
      }
    where
      here : (u : ℕ) → eqb u t ≡ true
          → (get_or (set table t r) u 0 ≡ get_or table u 0)
          ⊎ ((u < tasks) × (get_or (set table t r) u 0 ≡ rank_of wcet predecessors tasks u))
      here u f = let q = eqb-true u t f in rw q (inr (l, get_or-set_same table t r 0 h ∙ e))

  -- a rank that is known
  pub found_known : {table : List ℕ} {t r : ℕ} → ∥ Noted wcet predecessors tasks table ∥₁ → r ≡ get_or table t 0 → (r ≡ 0 → ⊥)
      → RankFound wcet predecessors tasks t table table r
  found_known {table} {t} {r} h e some = record { is = e ∙ known; noted = known; grown = grown_none }
    where
      known : get_or table t 0 ≡ rank_of wcet predecessors tasks t
      known = ∥∥₁_elim h (ℕ_set _ _) (λ f. ⊎_elim (λ d. absurd (some (e ∙ d))) (λ d. d.1) (f.each t))

  -- no member
  pub greatest_empty : {table : List ℕ} {s : ℕ} → s ≡ 0 → GreatestFound wcet predecessors tasks s table table 0
  greatest_empty e =
      record {
        is = le_antisymm zero-le (greatest_lub tasks _ 0 (λ u l. rw (e, has_none u) (le_refl 0)));
        grown = grown_none;
      }

  -- a member and the others: the greater
  module _ {a b c : List ℕ} {s t left one most : ℕ} (fits : s < 2 ^ width) (some : s ≡ 0 → ⊥) (h : AllTasks tasks s)
      (is-lowest : t ≡ lowest s) (is-left : left ≡ remove s (lowest s)) (f : RankFound wcet predecessors tasks t a b one)
      (g : GreatestFound wcet predecessors tasks left b c most) where
    both : greatest_in wcet predecessors tasks s ≡ max one most
    both =
        greatest_is fits some h (rank_of wcet predecessors tasks)
        ∙ ap₂ max (ap (rank_of wcet predecessors tasks) (sym is-lowest) ∙ sym f.is)
        (ap (greatest_in wcet predecessors tasks) (sym is-left) ∙ sym g.is)

    pub greatest_both : GreatestFound wcet predecessors tasks s a c (max one most)
    greatest_both = record { is = sym both; grown = grown_more f.grown g.grown }

-- a rank that is computed and noted
module _ {wcet predecessors : List ℕ} {tasks : ℕ} (ready : Ready wcet predecessors tasks) {a b : List ℕ} {t s own most : ℕ}
    (l : t < tasks) (q : s ≡ set_of tasks (arrow predecessors t)) (e : own ≡ own_rank wcet t)
    (g : GreatestFound wcet predecessors tasks s a b most) where
  computed : own + most ≡ rank_of wcet predecessors tasks t
  computed =
      rw (
        e,
        g.is,
        q,
        greatest_cong tasks _ (λ u. cond (arrow predecessors t u) (rank_of wcet predecessors tasks u) 0)
            (λ u m. ap (λ (x : Bool). cond x (rank_of wcet predecessors tasks u) 0) (has_successor ready t u m)),
      )
      (sym (rank_is (own_rank wcet) (arrow predecessors) tasks (ordered ready) t l))

  pub rank_fits : own + most < 2 ^ 64
  rank_fits =
      rw computed
      (small (rank_most (own_rank wcet) (arrow predecessors) tasks most_own
      (λ u m. own_most wcet u (λ k. ready.short u k m)) t l) ready.known.few)
    where
      small : {r : ℕ} → r ≤ tasks * most_own → tasks ≤ most_tasks → r < 2 ^ 64
      small a b = omega arith

  pub found_now : ∥ Noted wcet predecessors tasks a ∥₁ → RankFound wcet predecessors tasks t a (set b t (own + most)) (own + most)
  found_now m =
      record {
        is = computed;
        noted = get_or-set_same b t (own + most) 0 inside ∙ computed;
        grown = grown_more g.grown (grown_set b t (own + most) inside l computed);
      }
    where
      inside : t < length b
      inside = subst (λ (x : ℕ). t < x) (sym (g.grown.long ∙ noted_long m)) (lt_of_lt_of_le l ready.known.few)
