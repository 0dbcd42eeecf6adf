-- The laws of `tabulate`. Assumes nothing.
use mathlib.Core.Path.{◌≡◌, refl, sym, ap, ap₂, ◌∙◌}
use mathlib.Core.Bool.{cond}
use mathlib.Core.List.{List, [], ◌∷◌}
use Prim.Native.Nat.{ℕ, zero, suc, ◌+◌, ◌≤◌, ◌<◌, zero-le, suc-le-suc}
use native.Mathlib.Nat.{le_of_suc-le-suc, lt_of_lt_of_le, not-suc-le-zero, le_of_eq, zero-lt-suc}
use native.Mathlib.Numerals.{add-one}
use native.Mathlib.Omega.{arith}
use borrow.Author.Tests.{le-ltb, lt-ltb}
use lib.Dec.{ltb}
use lib.ListN.{length, get_or, drop, set, replicate, drop_of_length-le}
use lib.Seq.{drop-cons}
use Rattle.task_set.specs.Bounded.{tabulate}
use Rattle.task_set.proofs.Bounded.{other_below}

pub length_tabulate : {A : Type 0} (n : ℕ) (f : ℕ → A) → length (tabulate n f) ≡ n
unfolding tabulate
length_tabulate zero f = refl
length_tabulate (suc n) f = ap suc (length_tabulate n (λ i. f (suc i)))

pub get_d_tabulate : {A : Type 0} (n : ℕ) (f : ℕ → A) (i : ℕ) (d : A) → i < n → get_or (tabulate n f) i d ≡ f i
unfolding tabulate
get_d_tabulate zero f i d l = absurd (not-suc-le-zero l)
get_d_tabulate (suc n) f zero d l = refl
get_d_tabulate (suc n) f (suc i) d l = get_d_tabulate n (λ i. f (suc i)) i d (le_of_suc-le-suc l)

-- the entry at i, and those after it
pub drop_tabulate : {A : Type 0} (n : ℕ) (f : ℕ → A) (i : ℕ) → i < n → drop i (tabulate n f) ≡ f i ∷ drop (suc i) (tabulate n f)
drop_tabulate n f i l = rw (get_d_tabulate n f i (f i) l) at (drop-cons (tabulate n f) i (f i) (rw (length_tabulate n f) l))

pub drop_all : {A : Type 0} (n : ℕ) (f : ℕ → A) → drop n (tabulate n f) ≡ []
drop_all n f = drop_of_length-le (tabulate n f) (le_of_eq (length_tabulate n f))

-- ---- a table that is made and then written

pub tabulate_cong : {A : Type 0} (n : ℕ) (f g : ℕ → A) → ((i : ℕ) → i < n → f i ≡ g i) → tabulate n f ≡ tabulate n g
unfolding tabulate
tabulate_cong zero f g h = refl
tabulate_cong (suc n) f g h =
    ap₂ ◌∷◌ (h 0 (zero-lt-suc n)) (tabulate_cong n (λ i. f (suc i)) (λ i. g (suc i)) (λ i l. h (suc i) (suc-le-suc l)))

pub replicate_tabulate : {A : Type 0} (n : ℕ) (a : A) → replicate n a ≡ tabulate n (λ i. a)
unfolding tabulate
replicate_tabulate zero a = refl
replicate_tabulate (suc n) a = ap₂ ◌∷◌ refl (replicate_tabulate n a)

-- the table of f with g i put at i is the table of g, where g is f elsewhere
pub set_tabulate : {A : Type 0} (n : ℕ) (f g : ℕ → A) (i : ℕ) → ((j : ℕ) → (j ≡ i → ⊥) → f j ≡ g j)
    → set (tabulate n f) i (g i) ≡ tabulate n g
unfolding tabulate
set_tabulate zero f g i h = refl
set_tabulate (suc n) f g zero h =
    ap₂ ◌∷◌ refl (tabulate_cong n (λ j. f (suc j)) (λ j. g (suc j)) (λ j l. h (suc j) (λ e. omega arith)))
set_tabulate (suc n) f g (suc i) h =
    ap₂ ◌∷◌ (h 0 (λ e. omega arith))
    (set_tabulate n (λ j. f (suc j)) (λ j. g (suc j)) i (λ j q. h (suc j) (λ e. q (omega arith))))

-- the table of a list's entries is the list
pub tabulate_get_d : {A : Type 0} (n : ℕ) (xs : List A) (d : A) → length xs ≡ n → tabulate n (λ i. get_or xs i d) ≡ xs
unfolding tabulate
tabulate_get_d zero [] d e = refl
tabulate_get_d zero (x ∷ xs) d e = absurd (omega arith)
tabulate_get_d (suc n) [] d e = absurd (omega arith)
tabulate_get_d (suc n) (x ∷ xs) d e = ap₂ ◌∷◌ refl (tabulate_get_d n xs d (omega arith))

-- ---- a table that a loop fills from the front: f below t, and a from there on

module _ {A : Type 0} (n : ℕ) (f : ℕ → A) (a : A) where
  abbrev pub filled_to : ℕ → List A
  filled_to t = tabulate n (λ i. cond (ltb i t) (f i) a)

  pub filled_none : replicate n a ≡ filled_to 0
  filled_none = replicate_tabulate n a ∙ tabulate_cong n _ _ (λ i l. rw (le-ltb i 0 zero-le) refl)

  pub filled_more : (t : ℕ) {x : A} → x ≡ f t → set (filled_to t) t x ≡ filled_to (t + 1)
  filled_more t e =
      ap (set (filled_to t) t) (e ∙ sym (rw (lt-ltb t (t + 1) (omega arith)) refl))
      ∙ set_tabulate n _ (λ i. cond (ltb i (t + 1)) (f i) a) t
      (λ j h. rw (add-one t, other_below j t h) refl)

  pub filled_all : {t : ℕ} → n ≤ t → filled_to t ≡ tabulate n f
  filled_all {t} l = tabulate_cong n _ f (λ i m. rw (lt-ltb i t (lt_of_lt_of_le m l)) refl)
