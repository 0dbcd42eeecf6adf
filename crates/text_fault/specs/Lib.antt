-- The definitions that the contracts of `text_fault` cite.
pub mod Faults
