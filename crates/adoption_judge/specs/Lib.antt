-- The definitions of `adoption_judge`: what inner functions compute.
pub mod Steps
