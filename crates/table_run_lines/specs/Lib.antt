-- The definitions that the contracts of `table_run_lines` cite.
pub mod RunText
