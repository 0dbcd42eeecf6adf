-- The definitions that the contracts of `text_form` cite.
pub mod Form
pub mod Steps
