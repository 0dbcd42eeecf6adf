-- The definitions that the contracts of `ranks` cite.
pub mod Ranks
-- what inner functions rely on
pub mod Steps
