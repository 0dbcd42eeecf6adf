-- The claims about texts.
pub mod Read
pub mod Written
