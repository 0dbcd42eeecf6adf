-- `proposal::constraint_for` meets its contract. Assumes nothing.
use mathlib.Core.Path.{◌≡◌, refl}
use borrow.Author.Rules.{rules}
use Rattle.std.specs.Prelude.{Err}
use Rattle.ranks.proofs.Callers.{not_refused, ranks_low}
use Rattle.proposal.proofs.Answers.{number-some, says-no, says-yes, keys_apart, orderly}
use Rattle.proposal.proofs.constraint_for.Goals as goal

pub returns-in_err-ranks : goal.returns-in_err-ranks
returns-in_err-ranks c =
    let e : c.from_residual.result ≡ Err c.in_err-ranks.field-0.0 = search rules in
    rw e (says-no _ c.in_err-ranks.ensures (number-some _))

-- from here on the ranks are not refused

pub rank_keys-keys-requires : goal.rank_keys-keys-requires
rank_keys-keys-requires c = ranks_low _ (not_refused _ c.in_ok-ranks.ensures refl)

pub by_falling-by_rank-requires : goal.by_falling-by_rank-requires
by_falling-by_rank-requires c = keys_apart _ (not_refused _ c.in_ok-ranks.ensures refl) c.rank_keys-keys.ensures

pub constraint_of-requires : goal.constraint_of-requires
constraint_of-requires c = orderly _ (not_refused _ c.in_ok-ranks.ensures refl) c.rank_keys-keys.ensures c.by_falling-by_rank.ensures

pub returns : goal.returns
returns c =
    says-yes _ (not_refused _ c.in_ok-ranks.ensures refl) c.rank_keys-keys.ensures c.in_ok-ranks.ensures refl c.by_falling-by_rank.ensures
    c.constraint_of.ensures
