-- The definitions that the contracts of `bench_answer` cite; those of its inner function.
pub mod Answer
pub mod Steps
