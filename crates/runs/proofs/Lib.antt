-- The laws and theorems of runs, in reading order; the results are in Theorems.
-- where a task stands, its type and its times
pub mod Positions
-- plan and constraint as an order of the theory
pub mod Orders
-- what a walk and an instant keep
pub mod Dispatch
-- a timed run in closed form: greedy starts
pub mod Closed
-- two timed runs
pub mod Compare
-- how long a run takes
pub mod Response
-- notes are those of a timed run with times that fit them
pub mod Fitting
-- the times that accepted reports tell are allowed
pub mod Sound
-- a list of reports
pub mod Reported
pub mod Listed
-- the results
pub mod Theorems
