-- The claims about the worked examples.
pub mod Worked
