-- `proposal::placing::constraint_of` meets its contract: the tasks passed are placed. Assumes nothing.
use lib.ListN.{get_or}
use Rattle.task_set.proofs.Upto.{Upto}
use Rattle.proposal_theory.specs.Proposals.{bench_after}
use Rattle.proposal.specs.Steps.{kept}
use Rattle.proposal.proofs.placing.constraint_of.Given as goal

abbrev pub invariant-loop-t : goal.invariant-loop-t
invariant-loop-t l =
    Upto (bench_after l.p.units l.p.wcet l.p.predecessors l.p.releases (λ n. get_or l.order n 0)) l.p.tasks l.t-index (kept l.bench)
