-- Laws that every crate above uses, in reading order.
-- tests as truth values
pub mod Truth
-- every, some, how many, below a bound
pub mod Bounded
-- the first that passes
pub mod Search
-- what std's `find` over the numbers below a bound answers
pub mod Found
-- loops that gather an answer
pub mod Upto
-- n different numbers below n are all of them
pub mod Cover
-- numbers that pass, with values of their own, are no more than the values
pub mod Pigeons
-- members of a set in a word
pub mod Members
-- lists by index
pub mod Tables
-- arrays of what a function gives of each index
pub mod Made
-- an order by a key, and then by number
pub mod Keyed
-- places in an order: how many stand before
pub mod Ranking
-- lists that a loop fills by place
pub mod Seats
