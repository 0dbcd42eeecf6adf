-- `ranks::ranks` meets its contract. Assumes nothing.
use mathlib.Core.Path.{sym, ◌∙◌}
use Rattle.ranks.specs.Ranks.{ranks_of}
use Rattle.ranks.proofs.Callers.{says_8, says_23, says_0, plan_known, plan_ready}
use Rattle.ranks.proofs.ranks.Goals as goal

pub returns-then-not-plan_ok : goal.returns-then-not-plan_ok
returns-then-not-plan_ok c =
    says_8 _ (sym c.plan_ok.ensures ∙ c.if-not-plan_ok.true)

pub leads_back-requires : goal.leads_back-requires
leads_back-requires c =
    plan_known _ (sym c.plan_ok.ensures ∙ c.if-not-plan_ok.false)

pub returns-then-leads_back : goal.returns-then-leads_back
returns-then-leads_back c =
    says_23 _ (sym c.plan_ok.ensures ∙ c.if-not-plan_ok.false) (sym c.leads_back.ensures ∙ c.if-leads_back.true)

pub table_of-requires : goal.table_of-requires
table_of-requires c =
    plan_ready _ (sym c.plan_ok.ensures ∙ c.if-not-plan_ok.false)
    (sym c.leads_back.ensures ∙ c.if-leads_back.false)

pub returns : goal.returns
unfolding ranks_of
returns c =
    says_0 _ (sym c.plan_ok.ensures ∙ c.if-not-plan_ok.false)
    (sym c.leads_back.ensures ∙ c.if-leads_back.false) c.table_of.ensures
