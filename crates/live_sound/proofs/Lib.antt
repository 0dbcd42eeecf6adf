-- The laws of soundness by sets.
-- all of the first numbers are members, from how many are
pub mod Counting
