-- Runs of stores, one after the other. Assumes nothing.
use mathlib.Core.Path.{◌≡◌, refl, sym, ap, ap₂, ◌∙◌, subst}
use mathlib.Core.List.{List, [], ◌∷◌, ◌++◌}
use Prim.Native.Nat.{ℕ, zero, suc, ◌+◌, ◌-◌, ◌/◌, ◌%◌, ◌≤◌, ◌<◌}
use native.Mathlib.Nat.{add-zero, le_of_eq}
use native.Mathlib.Omega.{arith}
use borrow.Rule.Slice.PartMut.{put_mid}
use lib.ListN.{length, set, take, drop, length-append}
use Rattle.std.proofs.Common.{append_assoc, drop-drop}
use lib.Seq.{sets, sets-eq, set_comm, length-sets}
use Rattle.table_lines.specs.Decimal.{decimal, decimal_upto}
use Rattle.table_lines.specs.Steps.{Room, Put}
use Rattle.table_lines.proofs.Digits.{upto_last, upto_self}

-- two runs are one
sets_append : (b : List ℕ) (at : ℕ) (s t : List ℕ) → sets (sets b at s) (at + length s) t ≡ sets b at (s ++ t)
sets_append b at [] t = rw add-zero
sets_append b at (x ∷ s) t =
    ap (λ (i : ℕ). sets (sets (set b at x) (suc at) s) i t) (omega arith) ∙ sets_append (set b at x) (suc at) s t

-- ---- texts, one after the other

pub put_byte : (b : List ℕ) (at x : ℕ) → Put b at (x ∷ []) (set b at x) (at + 1)
put_byte b at x = record { bytes = refl; end = refl }

-- a part of the buffer is copied over
pub put_part : (b s : List ℕ) (at k : ℕ) {t : List ℕ} → Room b at s → t ≡ s → k ≡ length s → Put b at s (put_mid at k b t) (at + length s)
put_part b s at k h e f =
    record {
      bytes =
          rw (e, f) (ap (λ (r : List ℕ). take at b ++ (s ++ r)) (drop-drop (length s) at b)
          ∙ sym (append_assoc (take at b) s (drop (at + length s) b)) ∙ sym (sets-eq s b at h.fits));
      end = refl;
    }

pub put_then : {b b₁ b₂ s t : List ℕ} {at m n : ℕ} → Put b at s b₁ m → Put b₁ m t b₂ n → Put b at (s ++ t) b₂ n
put_then {b} {s = s} {t = t} {at = at} p q =
    record {
      bytes = q.bytes ∙ ap₂ (λ (r : List ℕ) (i : ℕ). sets r i t) p.bytes p.end ∙ sets_append b at s t;
      end = omega (arith, length-append s t);
    }

pub put_length : {b b₁ s : List ℕ} {at m : ℕ} → Put b at s b₁ m → length b₁ ≡ length b
put_length {b} {s = s} {at = at} p = ap length p.bytes ∙ length-sets b at s

-- where two fit, the first does, and the second after it
pub room_first : {b s : List ℕ} {at : ℕ} (t : List ℕ) → Room b at (s ++ t) → Room b at s
room_first {s = s} t h = record { fits = omega (arith, length-append s t) }

pub room_then : {b b₁ s : List ℕ} {at m : ℕ} → Put b at s b₁ m → (t : List ℕ) → Room b at (s ++ t) → Room b₁ m t
room_then {s = s} p t h = record { fits = omega (arith, length-append s t, put_length p) }

-- the same, where the second begins at a place equal by value
pub put_then_at : {b b₁ b₂ s t : List ℕ} {at m k n : ℕ} → Put b at s b₁ m → k ≡ m → Put b₁ k t b₂ n → Put b at (s ++ t) b₂ n
put_then_at {b₁ = b₁} {b₂ = b₂} {t = t} {n = n} p e q = put_then p (subst (λ (i : ℕ). Put b₁ i t b₂ n) e q)

pub room_then_at : {b b₁ s : List ℕ} {at m k : ℕ} → Put b at s b₁ m → k ≡ m → (t : List ℕ) → Room b at (s ++ t) → Room b₁ k t
room_then_at {s = s} p e t h = record { fits = omega (arith, length-append s t, put_length p) }

-- ---- a number's digits, the last first

-- a store behind a run may come before it
sets_set : (b : List ℕ) (at : ℕ) (s : List ℕ) (i x : ℕ) → at + length s ≤ i → set (sets b at s) i x ≡ sets (set b i x) at s
sets_set b at [] i x l = refl
sets_set b at (y ∷ s) i x l =
    sets_set (set b at y) (suc at) s i x (omega arith)
    ∙ ap (λ (r : List ℕ). sets r (suc at) s) (set_comm b at i y x (λ e. omega arith))

-- where n digits of `left` are stored before i, x stands written in b₀
pub record Left (b₀ : List ℕ) (at x : ℕ) (b : List ℕ) (i left : ℕ) : Type 0 where
  pub n : ℕ
  pub place : i ≡ at + n
  pub long : length (decimal_upto n left) ≡ n
  pub whole : sets b at (decimal_upto n left) ≡ sets b₀ at (decimal x)

pub left_all : (b : List ℕ) (at x i : ℕ) → i ≡ at + length (decimal x) → Left b at x b i x
unfolding decimal
left_all b at x i e =
    let s = upto_self 20 x in record { n = length (decimal x); place = e; long = ap length s; whole = ap (sets b at) s }

pub left_fewer : {b₀ b : List ℕ} {at x i left : ℕ} → Left b₀ at x b i left → at < i
    → Left b₀ at x (set b (i - 1) (48 + left % 10)) (i - 1) (left / 10)
left_fewer {b₀} {b} {at} {x} {i} {left} h l = go h.n h.place h.long h.whole
  where
    go : (n : ℕ) → i ≡ at + n → length (decimal_upto n left) ≡ n → sets b at (decimal_upto n left) ≡ sets b₀ at (decimal x)
        → Left b₀ at x (set b (i - 1) (48 + left % 10)) (i - 1) (left / 10)
    go zero e f g = absurd (omega arith)
    go (suc n) e f g =
        let d = upto_last n left f in
        let p = decimal_upto n (left / 10) in
        let long : length p ≡ n = omega (arith, ap length d, length-append p ((48 + left % 10) ∷ [])) in
        let j : at + length p ≡ i - 1 = omega arith in
        record {
          n = n;
          place = omega arith;
          long = long;
          whole =
              sym (sets_set b at p (i - 1) (48 + left % 10) (le_of_eq j))
              ∙ ap (λ (k : ℕ). set (sets b at p) k (48 + left % 10)) (sym j)
              ∙ sets_append b at p ((48 + left % 10) ∷ []) ∙ ap (sets b at) (sym d) ∙ g;
        }

pub left_none : {b₀ b : List ℕ} {at x i left : ℕ} → Left b₀ at x b i left → i ≤ at → b ≡ sets b₀ at (decimal x)
unfolding decimal_upto
left_none {b = b} {at} {left = left} h l =
    let z : h.n ≡ 0 = omega (arith, h.place) in ap (λ (n : ℕ). sets b at (decimal_upto n left)) (sym z) ∙ h.whole
