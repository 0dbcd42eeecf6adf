-- The laws of the simulation, in reading order.
-- the answers of simulate and bound
pub mod Answers
-- a simulation that is not refused is a run
pub mod Ran
