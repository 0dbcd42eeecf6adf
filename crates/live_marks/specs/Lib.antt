-- The definitions that the contracts of `live_marks` cite.
pub mod Steps
