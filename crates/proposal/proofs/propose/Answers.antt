-- `proposal::propose` meets its contract. Assumes nothing.
use mathlib.Core.Path.{◌≡◌}
use Rattle.proposal_theory.specs.Proposals.{proposal_of, proposed}
use Rattle.proposal.proofs.Answers.{promise-passes, promise-in-time}
use Rattle.proposal.proofs.propose.Goals as goal

pub returns-in-Ok : goal.returns-in-Ok
returns-in-Ok c =
    let e = c.in-Ok.ensures in
    record { value = e; passes = λ z. promise-passes _ e z; in_time = λ z. promise-in-time _ e z }

pub returns-in-Err : goal.returns-in-Err
returns-in-Err c =
    let e : proposal_of c.number.result 0 c.no_constraint.result ≡ proposed c.args.p =
    rw (c.number.ensures, c.no_constraint.ensures) c.in-Err.ensures in
    record { value = e; passes = λ z. promise-passes _ e z; in_time = λ z. promise-in-time _ e z }
