-- The definitions that the contracts of `live` cite.
pub mod States
pub mod Soundness
pub mod Ticks
pub mod Steps
