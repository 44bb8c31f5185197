-- The definitions that the contracts of `regression`, and of the crates above, cite.
pub mod Regression
