-- The definitions that the contracts of `quantile`, and of the crates above, cite.
pub mod Found
pub mod Quantile
