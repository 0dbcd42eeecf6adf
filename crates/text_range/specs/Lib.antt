-- The definitions that the contracts of `text_range` cite.
pub mod Ranges
