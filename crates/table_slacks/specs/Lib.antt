-- The definitions that the contracts of `table_slacks` cite.
pub mod SlackTable
