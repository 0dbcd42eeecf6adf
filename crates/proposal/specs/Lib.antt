-- The definitions of `proposal`: what inner functions rely on.
pub mod Steps
