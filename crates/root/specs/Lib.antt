-- The definition that the contracts of `root`, and of the crates above, cite.
pub mod Root
