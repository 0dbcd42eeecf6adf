-- The laws that belong to no one function, in reading order.
-- differences of two numbers
pub mod Differences
-- the slack of a task
pub mod Slack
-- the least slack, and the lowest task that has it
pub mod Least
-- the answer from a run
pub mod Answers
-- the range that every slack lies in
pub mod Range
-- what a slack tells of every run
pub mod KeptDeadlines
