-- The order of a plan and a constraint by position, its gate and its greedy starts. Assumes nothing.
use mathlib.Core.Path.{◌≡◌}
use mathlib.Core.List.{[], ◌∷◌}
use Prim.Native.Nat.{ℕ, suc, ◌+◌, ◌≤◌, ◌<◌}
use lib.ListN.{get_or, drop}
use Rattle.task_set.specs.Sets.{has}
use Rattle.task_set.proofs.Tables.{drop_tabulate, drop_all}
use Rattle.plan.specs.declared.Plan.{Plan}
use Rattle.plan.specs.declared.Constraint.{Constraint}
use Rattle.plan.specs.Rules.{predecessors_of, release_of}
use Rattle.plan.proofs.Accepted.{Accepted}
use Rattle.dispatch_theory.proofs.Sums.{greatest_le}
use Rattle.dispatch_theory.proofs.Gate.{Lawful}
use Rattle.dispatch_theory.proofs.Greedy.{Greedy}
use Rattle.dispatch_theory.proofs.Rules.{Order, rule_gate, rules_lawful}
use Rattle.dispatch_theory.proofs.Starts.{starts, exists}
use Rattle.runs.specs.Running.{Entry, entries, greatest_release}
use Rattle.runs.proofs.Positions.{task_at, type_at, position}

-- which earlier position a position waits for, its not-before instant, its type, and how many units a type has
abbrev pub order_of : Plan → Constraint → Order
order_of p c =
    record {
      size = p.tasks;
      waits = λ k j. has (predecessors_of p.predecessors (task_at c k)) (task_at c j);
      release = λ k. release_of p.releases (task_at c k);
      type = type_at c;
      units = λ k. get_or p.units k 0;
    }

-- how long a position holds its unit past its finish, and from which instant on only other positions make one wait
abbrev pub hold_of : Plan → Constraint → ℕ → ℕ
hold_of p c j = 0

abbrev pub base_of : Plan → ℕ
base_of p = greatest_release p

-- ---- times d by task number

-- each task lasts
abbrev pub Lasting : Plan → (ℕ → ℕ) → Type 0
Lasting p d = (t : ℕ) → t < p.tasks → 1 ≤ d t

-- the times by position
abbrev pub durations : Constraint → (ℕ → ℕ) → ℕ → ℕ
durations c d j = d (task_at c j)

-- the greedy starts by position
abbrev pub starts_of : Plan → Constraint → (ℕ → ℕ) → ℕ → ℕ
starts_of p c d = starts (rule_gate (order_of p c)) (hold_of p c) (base_of p) (durations c d)

-- the start and the finish of a task
abbrev pub start_of : Plan → Constraint → (ℕ → ℕ) → ℕ → ℕ
start_of p c d t = starts_of p c d (position c t)

abbrev pub finish_of : Plan → Constraint → (ℕ → ℕ) → ℕ → ℕ
finish_of p c d t = start_of p c d t + d t

pub lawful : {p : Plan} {c : Constraint} → Accepted p c → Lawful (rule_gate (order_of p c)) p.tasks (hold_of p c) (base_of p)
unfolding greatest_release
lawful {p} {c} a =
    rules_lawful (order_of p c) (base_of p) (λ k l. a.some_units (type_at c k) (a.type k l))
    (λ k l. greatest_le p.tasks (release_of p.releases) (task_at c k) (a.task k l))

pub greedy : {p : Plan} {c : Constraint} → Accepted p c → (d : ℕ → ℕ)
    → Greedy (rule_gate (order_of p c)) p.tasks (durations c d) (starts_of p c d)
greedy {p} {c} a d = exists (lawful a) (durations c d)

-- ---- the entries, from a position on

abbrev pub entry_of : Constraint → ℕ → Entry
entry_of c j = record { task = task_at c j; type = type_at c j }

pub entries_from : (c : Constraint) (k : ℕ) → k < c.len → drop k (entries c) ≡ entry_of c k ∷ drop (suc k) (entries c)
unfolding entries
entries_from c k l = drop_tabulate c.len (entry_of c) k l

pub entries_end : (c : Constraint) → drop c.len (entries c) ≡ []
unfolding entries
entries_end c = drop_all c.len (entry_of c)
