-- `adoption::listing::columns` meets its contract: an array for each field. Assumes nothing.
use Prim.Native.Nat.{ℕ}
use lib.ListN.{get_or}
use Rattle.std.proofs.Common.{rules}
use Rattle.adoption_theory.specs.Schedules.{no_record, column}
use Rattle.task_set.proofs.Made.{made}
use Rattle.adoption.proofs.listing.columns.Goals as goal

pub returns : goal.returns
unfolding column
returns c =
    let rs = c.args.records.now in
    cc (
      made _ (λ (i : ℕ). (get_or rs i no_record).task) 0 _ _ (λ q i y k. search rules) c.from_fn.ensures.items,
      made _ (λ (i : ℕ). (get_or rs i no_record).unit_type) 0 _ _ (λ q i y k. search rules) c.from_fn-2.ensures.items,
      made _ (λ (i : ℕ). (get_or rs i no_record).start) 0 _ _ (λ q i y k. search rules) c.from_fn-3.ensures.items,
      made _ (λ (i : ℕ). (get_or rs i no_record).finish) 0 _ _ (λ q i y k. search rules) c.from_fn-4.ensures.items,
    )
