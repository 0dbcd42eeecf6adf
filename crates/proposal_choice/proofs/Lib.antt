-- The laws that belong to no one function.
-- the unit that a task takes, as the loops find it
pub mod Choices
