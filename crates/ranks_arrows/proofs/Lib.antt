-- The laws that belong to no one function.
-- legal orders, and where arrows lead back
pub mod Orders
pub mod Rooted
pub mod Joining
-- the successors of a task
pub mod Collecting
