-- The definitions of `proposal_choice`: what inner functions rely on.
pub mod Steps
