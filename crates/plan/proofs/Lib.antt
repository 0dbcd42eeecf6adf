-- What the functions find, and what a plan and a constraint that the check takes give to callers.
-- a plan without fault
pub mod Kept
pub mod Pairs
-- orders of all tasks
pub mod Arranged
-- refusals one after the other, the verdict, and what callers use of an accepted one
pub mod Refusing
pub mod Verdicts
pub mod Accepted
