-- The laws of the timetable.
-- no timetable is longer than the longest
pub mod Longest
-- and the longest is reached
pub mod Reached
-- what is answered and written for a run
pub mod Runs
