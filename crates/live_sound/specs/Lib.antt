-- The definitions that the contracts of `live_sound` cite.
pub mod Steps
