-- The laws of the tests of a report and of the stamps.
-- the tests one after the other
pub mod Checking
-- the loop of the stamps
pub mod Stamps
