-- The definitions of `adoption`: what inner functions compute.
pub mod Steps
