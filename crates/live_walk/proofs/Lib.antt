-- The laws of the walk on sets and arrays.
-- the loop of the walk
pub mod Walking
