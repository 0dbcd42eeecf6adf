-- The claims about the check.
pub mod Checked
