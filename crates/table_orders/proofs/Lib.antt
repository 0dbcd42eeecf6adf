-- The laws of the C lines of an order.
-- their lengths, and that those of every proposal fit
pub mod OrderLines
-- what is answered and written for a proposal
pub mod Proposed
