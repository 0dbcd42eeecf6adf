-- The laws that belong to no one function.
-- what a rank is
pub mod Equation
-- how ranks are found
pub mod Summing
pub mod Found
pub mod Filling
-- from a plan to its ranks
pub mod Callers
-- nothing is rounded
pub mod Whole
