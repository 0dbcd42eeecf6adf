-- The claims about states.
pub mod Ticked
