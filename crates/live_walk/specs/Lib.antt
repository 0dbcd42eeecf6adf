-- The definitions that the contracts of `live_walk` cite.
pub mod Steps
