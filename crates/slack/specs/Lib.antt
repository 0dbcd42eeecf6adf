-- The definitions that the contracts of `slack` cite.
pub mod Margins
