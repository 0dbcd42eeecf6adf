-- The lowest task that fails, as a loop over the positions finds it. Assumes nothing.
use mathlib.Core.Path.{◌≡◌, refl, sym, ap, ◌∙◌, subst}
use mathlib.Core.Bool.{Bool, true, false, ◌&&◌, not, and-true}
use mathlib.Core.List.{List}
use Prim.Native.Nat.{ℕ, ◌+◌, ◌<◌}
use native.Mathlib.Nat.{le_refl, le_antisymm, lt_trans, lt_of_lt_of_le, not-suc-le-zero}
use native.Mathlib.Omega.{arith}
use borrow.Author.Count.{below_more}
use borrow.Author.Tests.{ltb-true, ltb-false, lt-ltb}
use lib.Dec.{ltb}
use Rattle.task_set.specs.Bounded.{first}
use Rattle.task_set.proofs.Truth.{and_left, and_right}
use Rattle.task_set.proofs.Search.{first_unique}
use Rattle.plan.specs.declared.Plan.{Plan}
use Rattle.plan.specs.declared.Constraint.{Constraint}
use Rattle.plan.specs.Rules.{time_of, between}
use Rattle.plan.specs.Refusals.{entry_at}
use Rattle.plan.proofs.Accepted.{Accepted}
use Rattle.std.specs.Prelude.{Option}
use Rattle.std.specs.Bool.{then_some}
use Rattle.simulation_times.specs.Times.{time_in, outside_at, Lowest, LowestOf}

-- a position fails by the worst time that is read
pub outside_by : (wcet order chosen times : List ℕ) (i : ℕ) {worst : ℕ}
    → worst ≡ time_of wcet (entry_at order i) (entry_at chosen i)
    → not (between 1 (time_in times (entry_at order i)) worst) ≡ outside_at wcet order chosen times i
unfolding outside_at
outside_by wcet order chosen times i = ap (λ (x : ℕ). not (between 1 (time_in times (entry_at order i)) x))

module _ {n : ℕ} {order : List ℕ} {fails : ℕ → Bool} where
  pub lowest_none : LowestOf n order fails 0 n
  lowest_none = record { within = le_refl n; passed = λ i l. absurd (not-suc-le-zero l); found = λ l. absurd (omega arith) }

  module _ {k r : ℕ} (o : LowestOf n order fails k r) {b : Bool} (e : b ≡ fails k) where
    -- position k fails, and its task is lower
    pub lowest_falls : b && ltb (entry_at order k) r ≡ true → LowestOf n order fails (k + 1) (entry_at order k)
    lowest_falls h =
        let l = ltb-true (entry_at order k) r (and_right b _ h) in
        record {
          within = omega (arith, o.within, l);
          passed =
              below_more (λ (i : ℕ). entry_at order i < entry_at order k → fails i ≡ false) k
              (λ i m x. o.passed i m (lt_trans x l))
              (λ x. absurd (omega arith));
          found = λ x. (k, omega arith, refl, sym e ∙ and_left b _ h);
        }

    pub lowest_stays : b && ltb (entry_at order k) r ≡ false → LowestOf n order fails (k + 1) r
    lowest_stays h =
        record {
          within = o.within;
          passed = below_more (λ (i : ℕ). entry_at order i < r → fails i ≡ false) k o.passed
              (λ x. sym (and-true b ∙ e) ∙ (rw (lt-ltb (entry_at order k) r x) at h));
          found = λ x. let i = o.found x in (i.0, omega (arith, i.1), i.2, i.3);
        }

  -- all are looked at
  pub lowest_end : {k m r : ℕ} → LowestOf n order fails k r → k ≡ m → LowestOf n order fails m r
  lowest_end {r = r} o e = subst (λ (x : ℕ). LowestOf n order fails x r) e o

  -- as the answer tells it
  pub lowest_told : {r : ℕ} → LowestOf n order fails n r → {o : Option ℕ} → o ≡ then_some (ltb r n) r → Lowest n order fails o
  lowest_told {r} l e = subst (Lowest n order fails) (sym e) (go (ltb r n) refl)
    where
      go : (b : Bool) → ltb r n ≡ b → Lowest n order fails (then_some b r)
      go true f = (ltb-true r n f, l)
      go false f = subst (LowestOf n order fails n) (le_antisymm l.within (ltb-false r n f)) l

-- of all positions: the first task that fails
pub lowest_all : {p : Plan} {c : Constraint} → Accepted p c → {fails : ℕ → Bool} (q : ℕ → Bool)
    → ((i : ℕ) → i < p.tasks → q (entry_at c.order i) ≡ fails i)
    → {r : ℕ} → LowestOf p.tasks c.order fails p.tasks r → r ≡ first p.tasks q
lowest_all {p} a q h {r} o =
    first_unique p.tasks q r
    (record {
      searched = record {
        within = o.within;
        before = λ t l.
            let i = a.somewhere t (lt_of_lt_of_le l o.within) in
            ap q (sym i.2) ∙ h i.0 i.1 ∙ o.passed i.0 i.1 (rw i.2 l);
      };
      passes = λ l. let i = o.found l in ap q (sym i.2) ∙ h i.0 i.1 ∙ i.3;
    })
