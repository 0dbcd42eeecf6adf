-- The laws that belong to no one function.
-- reading the records into columns
pub mod Reading
-- how the code comes to its answer
pub mod Answers
