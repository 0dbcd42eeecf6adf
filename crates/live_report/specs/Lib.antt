-- The definitions that the contracts of `live_report` cite.
pub mod Steps
