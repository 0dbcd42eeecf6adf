-- The laws that belong to no one function, in reading order.

-- the parts of a list before, between and after separators
pub mod Parts
-- digits and the field that they make
pub mod Decimal
-- the fields of a line and the line that they make
pub mod Lines
