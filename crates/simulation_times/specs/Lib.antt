-- The definitions that the contracts of `simulation_times` cite.
pub mod Times
