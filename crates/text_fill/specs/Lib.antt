-- The definitions that the contracts of `text_fill` cite.
pub mod Adding
