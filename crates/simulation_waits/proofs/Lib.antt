-- The laws of what a position waits for.
-- the latest finish of a set, the unit that is free first
pub mod Waits
