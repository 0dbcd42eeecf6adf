-- Both ends of the range are reached.
pub mod Ends
