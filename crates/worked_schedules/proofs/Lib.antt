-- The claims about schedules and proposals.
pub mod Adopted
pub mod Proposed
