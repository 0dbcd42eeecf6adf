-- The laws of the pass over the positions, in reading order.
-- the tasks at the first positions of an order, as sets
pub mod Standing
-- the loop over the positions
pub mod Marking
