-- The laws that belong to no one function, in reading order.

-- what a line without a fault is
pub mod Faultless
-- there is room for another entry
pub mod Room
-- a text line by line
pub mod Texts
-- no text leaves anything in an unused entry
pub mod Unused
