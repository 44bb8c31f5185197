-- The definitions that the contracts of `math`, and of the crates above, cite: a file for each subject.
pub mod Deviation
pub mod Mode
