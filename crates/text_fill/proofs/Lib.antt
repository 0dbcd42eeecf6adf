-- The laws that belong to no one function, in reading order.

-- the numbers of a line without fault 3
pub mod InRange
