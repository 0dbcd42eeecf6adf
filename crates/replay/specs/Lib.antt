-- The definitions that the contracts of `replay` cite, and the one claim about a list of ticks.
pub mod Lists
pub mod Replays
pub mod Steps
