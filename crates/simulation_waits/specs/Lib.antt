-- The definitions that the contracts of `simulation_waits` cite.
pub mod Waits
