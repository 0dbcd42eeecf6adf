-- The laws of schedules.
-- a schedule that nothing refuses
pub mod Taken
-- its records by place
pub mod Placed
-- the promises of an accepted schedule
pub mod Promises
-- a test that a count adds
pub mod Counted
