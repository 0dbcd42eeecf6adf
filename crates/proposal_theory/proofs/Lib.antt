-- The laws of a proposal.
-- the unit that a task takes
pub mod Units
-- the order in which tasks are placed, and the schedule
pub mod Places
pub mod Benches
-- the promises
pub mod Promises
