-- The definitions of `adoption_starts`: what inner functions rely on.
pub mod Steps
