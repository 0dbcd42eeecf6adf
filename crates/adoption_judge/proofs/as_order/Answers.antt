-- `adoption_judge::as_order` meets its contract: the columns are the same when they are widened. Assumes nothing.
use mathlib.Core.Path.{ap₂, ◌∙◌}
use lib.ListN.{get_or}
use Prim.Native.Nat.{ℕ}
use Rattle.std.proofs.Common.{rules}
use Rattle.task_set.proofs.Tables.{tabulate_get_d}
use Rattle.plan.specs.Rules.{most_tasks}
use Rattle.plan.specs.Refusals.{constraint_of}
use Rattle.task_set.proofs.Made.{made}
use Rattle.adoption_judge.proofs.as_order.Goals as goal

pub returns : goal.returns
returns c =
    let s = c.args.s.now in
    ap₂ (constraint_of _)
    (made _ (λ (i : ℕ). get_or s.tasks i 0) 0 _ _ (λ q i y k. search rules) c.from_fn.ensures.items
    ∙ tabulate_get_d most_tasks s.tasks 0 (search rules))
    (made _ (λ (i : ℕ). get_or s.types i 0) 0 _ _ (λ q i y k. search rules) c.from_fn-2.ensures.items
    ∙ tabulate_get_d most_tasks s.types 0 (search rules))
