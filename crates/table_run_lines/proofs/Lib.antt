-- The laws of the lines of a run.
-- how many bytes a line has
pub mod Length
