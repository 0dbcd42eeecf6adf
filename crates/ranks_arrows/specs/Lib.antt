-- The definitions that the contracts of `ranks_arrows` cite.
pub mod Arrows
-- what inner functions rely on
pub mod Steps
