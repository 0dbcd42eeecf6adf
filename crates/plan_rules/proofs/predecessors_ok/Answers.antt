-- `plan_rules::predecessors_ok` meets its contract. Assumes nothing.
use native.Mathlib.Omega.{arith}
use Rattle.plan_rules.proofs.Judging.{predecessors_ok_by}
use Rattle.plan_rules.proofs.predecessors_ok.Goals as goal

pub returns : goal.returns
returns c =
    predecessors_ok_by _ _ _ (omega arith) c.predecessors_of-s.ensures c.members_below.ensures
    c.contains.ensures
