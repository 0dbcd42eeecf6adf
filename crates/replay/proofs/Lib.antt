-- The theorems about a list of ticks.
-- the one claim about a list of ticks
pub mod Claims
-- a live run that has ended stays ended
pub mod Ended
-- start and a tick for each report of a list
pub mod Replaying
