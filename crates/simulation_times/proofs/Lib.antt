-- The laws of times by task number, in reading order.
-- the times of the chosen types
pub mod Chosen
-- 18: the lowest task that fails
pub mod Lowest
