-- The definitions that the contracts of `order`, and of the crates above, cite: a file for each subject.
pub mod Sort
pub mod Order
