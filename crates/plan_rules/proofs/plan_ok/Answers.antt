-- `plan_rules::plan_ok` meets its contract. Assumes nothing.
use mathlib.Core.Path.{sym, ap₂, ◌∙◌}
use mathlib.Core.Bool.{◌&&◌}
use Rattle.plan.specs.Rules.{plan_ok}
use Rattle.plan.proofs.Kept.{counted_types}
use Rattle.plan_rules.proofs.Parts.{tasks_parts}
use Rattle.plan_rules.proofs.plan_ok.Goals as goal

pub returns-then-not-counts_ok : goal.returns-then-not-counts_ok
unfolding plan_ok
returns-then-not-counts_ok c = rw (sym c.counts_ok.ensures ∙ c.if-not-counts_ok.true)

pub returns : goal.returns
unfolding plan_ok
returns c =
    rw (sym c.counts_ok.ensures ∙ c.if-not-counts_ok.false)
    (ap₂ ◌&&◌ c.all_units_ok.ensures
    (ap₂ ◌&&◌ (ap₂ ◌&&◌ c.all_pairs_fit.ensures c.all_tasks_ok.ensures ∙ sym (tasks_parts _ _ _ _ _))
    (ap₂ ◌&&◌ c.all_instants_ok.ensures c.all_instants_ok-2.ensures)))

pub all_tasks_ok-requires : goal.all_tasks_ok-requires
all_tasks_ok-requires c = counted_types _ _ (sym c.counts_ok.ensures ∙ c.if-not-counts_ok.false)
