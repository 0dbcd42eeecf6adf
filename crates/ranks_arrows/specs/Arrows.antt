-- Where the arrows of a plan lead (document 02, 8). Assumes nothing.
use Rattle.std.specs.Prelude.{Bool, ◌&&◌, List, ℕ, zero, suc, eqb}
use Rattle.task_set.specs.Bounded.{any}
use Rattle.task_set.specs.Sets.{has}
use Rattle.plan.specs.Rules.{predecessors_of}

-- an arrow leads from t to u: "`to` waits for `from`" (document 01, "The plan text")
unfoldable pub arrow : List ℕ → ℕ → ℕ → Bool
arrow predecessors t u = has (predecessors_of predecessors u) t

-- n arrows, one after the other, lead from t to u
unfoldable pub chain : (ℕ → ℕ → Bool) → ℕ → ℕ → ℕ → ℕ → Bool
chain arrow tasks zero t u = eqb t u
chain arrow tasks (suc n) t u = any tasks (λ v. arrow t v && chain arrow tasks n v u)

-- "the arrows lead from some task back to itself", after 1 arrow or more, and after as many as there are tasks at the latest
unfoldable pub circle : (ℕ → ℕ → Bool) → ℕ → Bool
circle arrow tasks = any tasks (λ t. any tasks (λ n. chain arrow tasks (suc n) t t))
