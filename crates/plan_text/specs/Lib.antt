-- The definitions that the contracts of `plan_text` cite.
pub mod Reading
pub mod Text
