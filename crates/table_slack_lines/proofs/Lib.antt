-- The laws of the lines of margins.
-- their lengths, and the line of a task by its deadline
pub mod SlackLines
