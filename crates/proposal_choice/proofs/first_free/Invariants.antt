-- `proposal_choice::first_free` meets its contract: none so far is free. Assumes nothing.
use lib.Dec.{leb}
use lib.ListN.{get_or}
use Rattle.task_set.proofs.Search.{Searched}
use Rattle.proposal_theory.specs.Units.{slot}
use Rattle.proposal_choice.proofs.first_free.Given as goal

abbrev pub invariant-loop-u : goal.invariant-loop-u
invariant-loop-u l = Searched l.n (λ u. leb (get_or l.free (slot l.k u) 0) l.start) l.u
