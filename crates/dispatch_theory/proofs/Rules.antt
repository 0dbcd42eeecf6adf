-- The gate of the running rules is lawful, and under it no type has more positions running than units. Assumes nothing.
use mathlib.Core.Path.{◌≡◌}
use mathlib.Core.Bool.{Bool, true, ◌&&◌, and-false}
use Prim.Native.Nat.{ℕ, ◌+◌, ◌≤◌, ◌<◌}
use native.Mathlib.Nat.{lt_of_le_of_lt, le_trans}
use native.Mathlib.Omega.{arith}
use borrow.Author.Tests.{leb-true, le-leb, ltb-true, lt-ltb, le-ltb, eqb-true}
use lib.Dec.{eqb, leb, ltb}
use Rattle.task_set.specs.Bounded.{all, count, implies}
use Rattle.task_set.proofs.Truth.{and_left, and_right, and_both, implies_elim, implies_intro, and_map}
use Rattle.task_set.proofs.Bounded.{all_intro, all_elim, count_none, count_mono, count_bound}
use Rattle.dispatch_theory.proofs.Gate.{Gate, Lawful}
use Rattle.dispatch_theory.proofs.Greedy.{ends, Greedy}

-- an order of positions: which earlier positions k waits for, the instant before which k does not start, the type of each,
-- and how many units a type has
pub record Order : Type 0 where
  pub size : ℕ
  pub waits : ℕ → ℕ → Bool
  pub release : ℕ → ℕ
  pub type : ℕ → ℕ
  pub units : ℕ → ℕ

-- position j, which finishes at F j, holds a unit of type t at the instant s
abbrev pub holds : Order → (ℕ → ℕ) → ℕ → ℕ → ℕ → Bool
holds o F s t j = eqb (o.type j) t && ltb s (F j)

-- k may start at s beside the positions below it, which finish at F: each that it waits for is finished, its instant has come,
-- and fewer units of its type are held than there are
unfoldable pub rule_gate : Order → Gate
rule_gate o F k s =
    all k (λ j. implies (o.waits k j) (leb (F j) s))
    && (leb (o.release k) s && ltb (count k (holds o F s (o.type k))) (o.units (o.type k)))

-- the gate as facts
pub record Fits (o : Order) (F : ℕ → ℕ) (s k : ℕ) : Type 0 where
  pub waited : (j : ℕ) → j < k → o.waits k j ≡ true → F j ≤ s
  pub released : o.release k ≤ s
  pub room : count k (holds o F s (o.type k)) < o.units (o.type k)

module _ (o : Order) (F : ℕ → ℕ) (s k : ℕ) where
  abbrev met : ℕ → Bool
  met j = implies (o.waits k j) (leb (F j) s)

  abbrev come : Bool
  come = leb (o.release k) s

  abbrev roomy : Bool
  roomy = ltb (count k (holds o F s (o.type k))) (o.units (o.type k))

  pub gate_elim : rule_gate o F k s ≡ true → Fits o F s k
  unfolding rule_gate
  gate_elim e =
      record {
        waited = λ j l w. leb-true (F j) s
            (implies_elim (o.waits k j) (leb (F j) s) (all_elim k met (and_left (all k met) (come && roomy) e) j l) w);
        released = leb-true (o.release k) s (and_left come roomy (and_right (all k met) (come && roomy) e));
        room = ltb-true _ (o.units (o.type k)) (and_right come roomy (and_right (all k met) (come && roomy) e));
      }

  pub gate_intro : Fits o F s k → rule_gate o F k s ≡ true
  unfolding rule_gate
  gate_intro f =
      and_both (all_intro k met (λ j l. implies_intro (o.waits k j) (λ w. le-leb (F j) s (f.waited j l w))))
      (and_both (le-leb (o.release k) s f.released) (lt-ltb _ (o.units (o.type k)) f.room))

-- finishes at most c later: what fitted fits c later
fits_later : (o : Order) (F G : ℕ → ℕ) (s c k : ℕ) → ((j : ℕ) → j < k → F j ≤ G j + c) → Fits o G s k → Fits o F (s + c) k
fits_later o F G s c k h f =
    record {
      waited = λ j l w. omega (arith, h j l, f.waited j l w);
      released = omega (arith, f.released);
      room = lt_of_le_of_lt (count_mono k (holds o F (s + c) t) (holds o G s t) fewer) f.room;
    }
  where
    t : ℕ
    t = o.type k

    fewer : (j : ℕ) → j < k → holds o F (s + c) t j ≡ true → holds o G s t j ≡ true
    fewer j l = and_map (eqb (o.type j) t) (λ e. omega (arith, ltb-true, lt-ltb, h j l))

-- where every position below k is over and the instant of k has come, k fits
fits_all : (o : Order) (F : ℕ → ℕ) (s k : ℕ) → ((j : ℕ) → j < k → F j ≤ s) → o.release k ≤ s → 1 ≤ o.units (o.type k)
    → Fits o F s k
fits_all o F s k h b u =
    record {
      waited = λ j l w. h j l;
      released = b;
      room = rw (count_none k (holds o F s t) (λ j l. rw (le-ltb s (F j) (h j l)) (and-false (eqb (o.type j) t)))) u;
    }
  where
    t : ℕ
    t = o.type k

-- each position has a unit
abbrev pub Roomy : Order → Type 0
Roomy o = (k : ℕ) → k < o.size → 1 ≤ o.units (o.type k)

-- no position has to wait for its instant past the instant base
abbrev pub Released : Order → ℕ → Type 0
Released o base = (k : ℕ) → k < o.size → o.release k ≤ base

pub rules_lawful : (o : Order) (base : ℕ) → Roomy o → Released o base → Lawful (rule_gate o) o.size (λ j. 0) base
rules_lawful o base u r =
    record {
      shift = λ F G k s c l h e. gate_intro o F (s + c) k (fits_later o F G s c k h (gate_elim o G s k e));
      opens = λ F k s l h b. gate_intro o F s k (fits_all o F s k (λ j i. omega (arith, h j i)) (le_trans (r k l) b) (u k l));
    }

-- no more positions of a type hold a unit together than it has units: at the start of the last of them there was room for it
pub units_kept : (o : Order) {d S : ℕ → ℕ} → Greedy (rule_gate o) o.size d S → (k s : ℕ)
    → count o.size (λ j. eqb (o.type j) k && (leb (S j) s && ltb s (S j + d j))) ≤ o.units k
units_kept o {d} {S} g k s = count_bound o.size uses (o.units k) room
  where
    runs : ℕ → Bool
    runs = λ j. leb (S j) s && ltb s (S j + d j)

    uses : ℕ → Bool
    uses = λ j. eqb (o.type j) k && runs j

    held : (m j : ℕ) → S m ≤ s → runs j ≡ true → ltb (S m) (S j + d j) ≡ true
    held m j v e = lt-ltb (S m) (S j + d j) (omega (arith, ltb-true, and_right (leb (S j) s) (ltb s (S j + d j)) e))

    room : (m : ℕ) → m < o.size → uses m ≡ true → count m uses < o.units k
    room m l e =
        let t : o.type m ≡ k = eqb-true (o.type m) k (and_left (eqb (o.type m) k) (runs m) e) in
        let v : S m ≤ s = leb-true (S m) s (and_left (leb (S m) s) _ (and_right (eqb (o.type m) k) (runs m) e)) in
        lt_of_le_of_lt (count_mono m uses (holds o (ends S d) (S m) k) (λ j i. and_map (eqb (o.type j) k) (held m j v)))
        (rw t at (gate_elim o (ends S d) (S m) m (g.open_at m l)).room)
