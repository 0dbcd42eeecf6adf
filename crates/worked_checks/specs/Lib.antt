-- Worked examples of the check.
pub mod CheckTable
