-- The laws of the run, in reading order.
-- arrays by task number that a loop over the positions fills
pub mod ByTask
-- the run, come to a position
pub mod Reached
