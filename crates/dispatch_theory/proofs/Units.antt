-- When the units of a type are free. A position starts at the latest of the start before it, its own not-before instant, the
-- finishes that it waits for, and the instant from which the unit is free that is free first. Assumes nothing.
use mathlib.Core.Path.{◌≡◌, refl, sym, ap, ◌∙◌, subst}
use mathlib.Core.Bool.{Bool, true, false, cond, ◌&&◌, ◌||◌, or-true, or-false}
use Prim.Native.Nat.{ℕ, suc, ◌+◌, ◌≤◌, ◌<◌, max, zero-le}
use native.Mathlib.Nat.{le_trans, le_antisymm, le-max_left, le-max_right, max-le, add-zero}
use native.Mathlib.Numerals.{add-one}
use native.Mathlib.Omega.{arith}
use borrow.Author.Tests.{ltb-true, ltb-false, lt-ltb, le-ltb, eq-eqb, eqb-true, eqb-false}
use lib.Dec.{eqb, ltb}
use Rattle.task_set.specs.Bounded.{count}
use Rattle.task_set.proofs.Truth.{by_test, clash}
use Rattle.task_set.proofs.Bounded.{count_cong, count_none, count_every, count_short, count_more}
use Rattle.dispatch_theory.proofs.Greedy.{ends, after, Greedy}
use Rattle.dispatch_theory.proofs.Rules.{Order, holds, rule_gate, Fits, gate_elim, gate_intro}

-- unit u of a type, free from the instant F ty u on, is taken at s
abbrev taken : (ℕ → ℕ → ℕ) → ℕ → ℕ → ℕ → Bool
taken F ty s u = ltb s (F ty u)

-- from the instant `last` on, as many units of each type are taken as positions below k hold, which finish at E
pub record Booked (o : Order) (types : ℕ) (E : ℕ → ℕ) (k last : ℕ) (F : ℕ → ℕ → ℕ) : Type 0 where
  pub as_many : (ty s : ℕ) → ty < types → last ≤ s → count k (holds o E s ty) ≡ count (o.units ty) (taken F ty s)

pub booked_none : (o : Order) (types : ℕ) (E : ℕ → ℕ) (F : ℕ → ℕ → ℕ) → ((ty u : ℕ) → ty < types → u < o.units ty → F ty u ≡ 0)
    → Booked o types E 0 0 F
unfolding count
booked_none o types E F z =
    record { as_many = λ ty s l m. sym (count_none (o.units ty) (taken F ty s) (λ u h. rw (z ty u l h) (le-ltb s 0 zero-le))) }

module _ (o : Order) {d S : ℕ → ℕ} (g : Greedy (rule_gate o) o.size d S) (k : ℕ) (low : k < o.size) where
  -- at its start the gate of a position is open
  pub open_now : Fits o (ends S d) (S k) k
  open_now = gate_elim o (ends S d) (S k) k (g.open_at k low)

  -- the unit u of its type is free first
  module _ (types : ℕ) (known : o.type k < types) (F : ℕ → ℕ → ℕ) (b : Booked o types (ends S d) k (after S k) F)
      (u : ℕ) (there : u < o.units (o.type k))
      (least : (v : ℕ) → v < o.units (o.type k) → F (o.type k) u ≤ F (o.type k) v) where
    abbrev t : ℕ
    t = o.type k

    -- how many positions before hold a unit of a type
    abbrev held : ℕ → ℕ → ℕ
    held ty s = count k (holds o (ends S d) s ty)

    -- the type has room exactly from the instant on from which that unit is free
    room_from : (s : ℕ) → after S k ≤ s → F t u ≤ s → held t s < o.units t
    room_from s a l = rw (b.as_many t s known a) (count_short (o.units t) (taken F t s) u there (le-ltb s (F t u) l))

    free_then : F t u ≤ S k
    free_then =
        by_test (ltb (S k) (F t u))
        (λ e. absurd (omega (
          arith,
          open_now.room,
          b.as_many t (S k) known (g.order k low),
          count_every (o.units t) (taken F t (S k))
              (λ v m. lt-ltb (S k) (F t v) (omega (arith, least v m, ltb-true (S k) (F t u) e))),
        )))
        (ltb-false (S k) (F t u))

    pub start_is : (w : ℕ) → ((j : ℕ) → j < k → o.waits k j ≡ true → ends S d j ≤ max (after S k) w)
        → o.release k ≤ max (after S k) w → w ≤ S k → max (max (after S k) w) (F t u) ≡ S k
    start_is w waited released over =
        le_antisymm (max-le (max-le (g.order k low) over) free_then)
        (by_test (ltb x (S k)) (λ e. absurd (clash opens (g.closed k x low behind (ltb-true x (S k) e)))) (ltb-false x (S k)))
      where
        x : ℕ
        x = max (max (after S k) w) (F t u)

        past : max (after S k) w ≤ x
        past = le-max_left (max (after S k) w) (F t u)

        behind : after S k ≤ x
        behind = le_trans (le-max_left (after S k) w) past

        opens : rule_gate o (ends S d) k x ≡ true
        opens =
            gate_intro o (ends S d) x k
            (record {
              waited = λ j l q. le_trans (waited j l q) past;
              released = le_trans released past;
              room = room_from x behind (le-max_right (max (after S k) w) (F t u));
            })

    -- ---- with the unit taken until the position's finish

    module _ (G : ℕ → ℕ → ℕ) (e : G t u ≡ ends S d k)
        (h : (ty v : ℕ) → ty < types → v < o.units ty → (ty ≡ t → v ≡ u → ⊥) → G ty v ≡ F ty v) where
      kept : (ty s : ℕ) → ty < types → S k ≤ s → held ty s ≡ count (o.units ty) (taken F ty s)
      kept ty s m a = b.as_many ty s m (le_trans (g.order k low) a)

      -- a type that is not the position's
      elsewhere : (ty s : ℕ) → ty < types → S k ≤ s → eqb t ty ≡ false
          → held ty s + cond (eqb t ty && ltb s (ends S d k)) 1 0 ≡ count (o.units ty) (taken G ty s)
      elsewhere ty s m a q =
          rw (q, add-zero)
          (kept ty s m a
          ∙ count_cong (o.units ty) (taken F ty s) (taken G ty s)
          (λ v l. ap (ltb s) (sym (h ty v m l (λ f i. eqb-false t ty q (sym f))))))

      -- the position's type: the unit was free
      module _ (s : ℕ) (a : S k ≤ s) where
        was_free : taken F t s u ≡ false
        was_free = le-ltb s (F t u) (le_trans free_then a)

        other : (v : ℕ) → v < o.units t → eqb u v ≡ false → taken F t s v ≡ taken G t s v
        other v l q = ap (ltb s) (sym (h t v known l (λ f i. eqb-false u v q (sym i))))

        over : ltb s (ends S d k) ≡ false → held t s + 0 ≡ count (o.units t) (taken G t s)
        over f =
            add-zero (held t s) ∙ kept t s known a
            ∙ count_cong (o.units t) (taken F t s) (taken G t s)
            (λ v l. by_test (eqb u v) (λ q. rw (← eqb-true u v q, was_free, e, f) refl) (other v l))

        runs_on : ltb s (ends S d k) ≡ true → held t s + 1 ≡ count (o.units t) (taken G t s)
        runs_on f =
            add-one (held t s) ∙ ap suc (kept t s known a) ∙ sym (count_more (o.units t) (taken F t s) u there was_free)
            ∙ count_cong (o.units t) (λ v. taken F t s v || eqb u v) (taken G t s)
            (λ v l. by_test (eqb u v)
            (λ q. rw (q, or-true (taken F t s v), ← eqb-true u v q, e, f) refl)
            (λ q. rw (q, or-false (taken F t s v)) (other v l q)))

        here : held t s + cond (eqb t t && ltb s (ends S d k)) 1 0 ≡ count (o.units t) (taken G t s)
        here = rw (eq-eqb t t refl) (by_test (ltb s (ends S d k)) (λ f. rw f (runs_on f)) (λ f. rw f (over f)))

      pub booked_more : Booked o types (ends S d) (suc k) (S k) G
      unfolding count
      booked_more =
          record {
            as_many = λ ty s m a.
                by_test (eqb t ty)
                (λ q. subst (λ (y : ℕ). count (suc k) (holds o (ends S d) s y) ≡ count (o.units y) (taken G y s))
                (eqb-true t ty q) (here s a))
                (elsewhere ty s m a);
          }
