-- What the check answers (document 01, "When an operation says no", Check). Assumes nothing.
use Rattle.std.specs.Prelude.{Bool, cond, ◌&&◌, ◌||◌, not, List, ℕ, eqb, leb, ltb, get_or, replicate, Result, Ok, Err, ⊤}
use Rattle.task_set.specs.Bounded.{any, first}
use Rattle.task_set.specs.Sets.{has}
use Rattle.plan.specs.declared.Plan.{Plan}
use Rattle.plan.specs.declared.Constraint.{Constraint}
use Rattle.plan.specs.declared.Verdict.{Verdict}
use Rattle.plan.specs.Rules.{most_types, most_tasks, most_pairs, predecessors_of, usable, plan_ok}

-- the task or the type at position i of the order
abbrev pub entry_at : List ℕ → ℕ → ℕ
entry_at entries i = get_or entries i 0

-- 9: the task "is absent or repeats"
unfoldable pub misplaced : ℕ → List ℕ → ℕ → Bool
misplaced tasks order i = leb tasks (entry_at order i) || any i (λ j. eqb (entry_at order j) (entry_at order i))

-- 10: "type the task cannot use, or is absent"
unfoldable pub unusable : ℕ → List ℕ → List ℕ → List ℕ → ℕ → Bool
unusable types wcet order chosen i =
    leb types (entry_at chosen i) || not (usable wcet (entry_at order i) (entry_at chosen i))

-- 11: the task "has a predecessor later in the order", of which the first n entries count
unfoldable pub predecessor_later : List ℕ → List ℕ → ℕ → ℕ → Bool
predecessor_later predecessors order n i =
    any n (λ j. ltb i j && has (predecessors_of predecessors (entry_at order i)) (entry_at order j))

-- "A refusal is a number and a place"; both are 0 where nothing is refused
abbrev pub refused : ℕ → ℕ → Verdict
refused number place = record { number = number; place = place }

abbrev pub no_refusal : Verdict
no_refusal = refused 0 0

-- Ok where nothing is refused, otherwise the refusal
unfoldable pub as_result : Verdict → Result ⊤ Verdict
as_result v = cond (eqb v.number 0) (Ok tt) (Err v)

-- a plan and a constraint with these parts
abbrev pub plan_of : ℕ → List ℕ → ℕ → List ℕ → List ℕ → List ℕ → List ℕ → List ℕ → Plan
plan_of types units tasks bcet wcet predecessors deadlines releases =
    record {
      types = types;
      units = units;
      tasks = tasks;
      bcet = bcet;
      wcet = wcet;
      predecessors = predecessors;
      deadlines = deadlines;
      releases = releases;
    }

abbrev pub constraint_of : ℕ → List ℕ → List ℕ → Constraint
constraint_of len order chosen = record { len = len; order = order; chosen = chosen }

-- "the rest of a refused answer is zeros"
abbrev pub no_plan : Plan
no_plan =
    plan_of 0 (replicate most_types 0) 0 (replicate most_pairs 0) (replicate most_pairs 0) (replicate most_tasks 0)
    (replicate most_tasks 0) (replicate most_tasks 0)

abbrev pub no_constraint : Constraint
no_constraint = constraint_of 0 (replicate most_tasks 0) (replicate most_tasks 0)

-- refused at the first of n positions that is at fault, otherwise what follows
unfoldable pub unless_at : ℕ → ℕ → (ℕ → Bool) → Verdict → Verdict
unless_at number n fault rest = cond (ltb (first n fault) n) (refused number (first n fault)) rest

-- the first of two verdicts that refuses
unfoldable pub first_refusal : Verdict → Verdict → Verdict
first_refusal v w = cond (eqb v.number 0) w v

-- "Numbers are tried in the order listed"
unfoldable pub verdict : Plan → Constraint → Verdict
verdict p c =
    cond (not (plan_ok p)) (refused 8 0)
    (cond (not (eqb c.len p.tasks)) (refused 9 c.len)
    (unless_at 9 c.len (misplaced p.tasks c.order)
    (unless_at 10 c.len (unusable p.types p.wcet c.order c.chosen)
    (unless_at 11 c.len (predecessor_later p.predecessors c.order c.len)
    no_refusal))))
