-- What the functions of the check find.
-- the order: sets of tasks passed, tests of one position
pub mod Placing
-- the plan: what the check knows of it once its rules hold
pub mod Planned
