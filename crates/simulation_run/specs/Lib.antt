-- The definitions that the contracts of `simulation_run` cite.
pub mod Ran
pub mod Steps
