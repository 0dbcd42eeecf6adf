-- The definitions that the contracts of `table_lines` cite.
pub mod Decimal
pub mod Texts
pub mod Refusal
pub mod Steps
