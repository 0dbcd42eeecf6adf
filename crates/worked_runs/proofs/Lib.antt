-- The claims about runs, journals, simulations and margins.
pub mod Limits
pub mod Ran
