-- The laws of numbers and lines, in reading order.
-- decimal numbers: their digits and lengths
pub mod Digits
-- bytes stored one after the other are a text
pub mod Stores
-- texts one after the other, and their lengths
pub mod Text
-- a text or a refusal in a lent buffer
pub mod Outcomes
