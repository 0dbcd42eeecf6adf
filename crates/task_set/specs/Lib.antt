-- The definitions that the contracts of `task_set` cite.
pub mod Bounded
pub mod Sets
