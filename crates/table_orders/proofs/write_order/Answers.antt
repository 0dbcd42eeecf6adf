-- `table_orders::write_order` meets its contract. Assumes nothing.
use Rattle.std.proofs.lemmas.Result.{err_from_is_err_and}
use Rattle.table_lines.proofs.Outcomes.{stops, lacks, has_room, put}
use Rattle.table_orders.proofs.write_order.Goals as goal

pub returns-in_err-accepted : goal.returns-in_err-accepted
returns-in_err-accepted c =
    let r = err_from_is_err_and c.from_residual.result c.from_residual.ensures.1 in
    rw (r.1, r.2) (stops _ _ _ c.accepted.ensures c.in_err-accepted.was)

pub returns-in_err-fits : goal.returns-in_err-fits
returns-in_err-fits c =
    let r = err_from_is_err_and c.from_residual-in_err-fits.result c.from_residual-in_err-fits.ensures.1 in
    rw (r.1, r.2) (lacks _ _ _ c.accepted.ensures c.in_ok-accepted.was c.order_length.ensures c.fits.ensures c.in_err-fits.was)

pub returns : goal.returns
returns c = put _ _ _ c.accepted.ensures c.in_ok-accepted.was c.order_length.ensures c.fits.ensures c.in_ok-fits.was c.put_order.ensures

pub put_order-requires : goal.put_order-requires
put_order-requires c = (c.requires, has_room _ _ _ c.accepted.ensures c.in_ok-accepted.was c.order_length.ensures c.fits.ensures c.in_ok-fits.was)
