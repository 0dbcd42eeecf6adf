-- Worked examples of texts: what is read, and what is written.
pub mod Bytes
pub mod ReadingTable
pub mod WritingTable
