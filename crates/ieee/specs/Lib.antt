-- The definitions that the contracts of `ieee`, and of the crates above, cite: a file for each subject.
pub mod Value
pub mod Patterns
pub mod Mark
