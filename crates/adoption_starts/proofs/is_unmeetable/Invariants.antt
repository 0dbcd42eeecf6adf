-- `adoption_starts::is_unmeetable` meets its contract: what the records passed say. Assumes nothing.
use Prim.Native.Nat.{ℕ}
use Rattle.task_set.specs.Bounded.{any, count}
use Rattle.task_set.proofs.Upto.{Upto}
use Rattle.adoption_theory.specs.Schedules.{holds}
use Rattle.adoption_starts.proofs.Judging.{delays}
use Rattle.adoption_starts.proofs.is_unmeetable.Given as goal

abbrev pub invariant-loop-j : goal.invariant-loop-j
invariant-loop-j l = Upto (λ (n : ℕ). any n (delays l.needed l.s l.start)) l.s.len l.j l.hasty
    × Upto (λ (n : ℕ). count n (holds l.s l.k l.start)) l.s.len l.j l.holders
