-- The definitions of `proposal_order`: what inner functions rely on.
pub mod Steps
