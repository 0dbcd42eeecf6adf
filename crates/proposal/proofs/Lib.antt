-- The laws that belong to no one function: how the code comes to its answer.
pub mod Steps
pub mod Answers
