-- Facts of truth values. Assumes nothing.
use mathlib.Core.Path.{◌≡◌, refl, sym, ap, ◌∙◌}
use mathlib.Core.Bool.{Bool, true, false, ◌&&◌, ◌||◌, not, true≢false}
use mathlib.Core.Logic.{◌⊎◌, inl, inr}
use Prim.Native.Nat.{ℕ}
use borrow.Author.Tests.{leb-true, leb-false, lt-ltb, le-ltb}
use lib.Dec.{leb, ltb}
use Rattle.task_set.specs.Bounded.{implies}

-- nothing is both true and false
pub clash : {b : Bool} → b ≡ true → b ≡ false → ⊥
clash e f = true≢false (sym e ∙ f)

-- by cases on a test
pub by_test : {P : Type 0} (b : Bool) → (b ≡ true → P) → (b ≡ false → P) → P
by_test true f g = f refl
by_test false f g = g refl

-- what is not true is false
pub off : (b : Bool) → (b ≡ true → ⊥) → b ≡ false
off true f = absurd (f refl)
off false f = refl

-- two truth values that follow from each other
pub same : (a b : Bool) → (a ≡ true → b ≡ true) → (b ≡ true → a ≡ true) → a ≡ b
same true b f g = sym (f refl)
same false b f g = sym (off b (λ e. clash (g e) refl))

pub and_left : (a b : Bool) → a && b ≡ true → a ≡ true
and_left true b e = refl
and_left false b e = e

pub and_right : (a b : Bool) → a && b ≡ true → b ≡ true
and_right true b e = e
and_right false b e = absurd (clash e refl)

pub and_both : {a b : Bool} → a ≡ true → b ≡ true → a && b ≡ true
and_both {a} {b} e f = ap (λ (x : Bool). x && b) e ∙ f

pub or_left : {a : Bool} (b : Bool) → a ≡ true → a || b ≡ true
or_left b e = ap (λ (x : Bool). x || b) e

pub or_right : (a : Bool) {b : Bool} → b ≡ true → a || b ≡ true
or_right true e = refl
or_right false e = e

pub or_cases : (a b : Bool) → a || b ≡ true → (a ≡ true) ⊎ (b ≡ true)
or_cases true b e = inl refl
or_cases false b e = inr e

pub or_none : {a b : Bool} → a ≡ false → b ≡ false → a || b ≡ false
or_none {a} {b} e f = ap (λ (x : Bool). x || b) e ∙ f

pub or_left_off : (a b : Bool) → a || b ≡ false → a ≡ false
or_left_off true b e = e
or_left_off false b e = refl

pub or_right_off : (a b : Bool) → a || b ≡ false → b ≡ false
or_right_off true b e = absurd (clash refl e)
or_right_off false b e = e

pub implies_elim : (a b : Bool) → implies a b ≡ true → a ≡ true → b ≡ true
implies_elim a b e f = rw f at e

pub implies_intro : (a : Bool) {b : Bool} → (a ≡ true → b ≡ true) → implies a b ≡ true
implies_intro true f = f refl
implies_intro false f = refl

pub and_map : (a : Bool) {b c : Bool} → (b ≡ true → c ≡ true) → a && b ≡ true → a && c ≡ true
and_map true f e = f e
and_map false f e = e

-- a number is not at most another one exactly if that one is less
pub not_leb : (x y : ℕ) → not (leb x y) ≡ ltb y x
not_leb x y = by_test (leb x y) (λ e. rw (e, le-ltb y x (leb-true x y e))) (λ e. rw (e, lt-ltb y x (leb-false x y e)))
