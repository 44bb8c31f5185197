pub mod Kept
pub mod Index
pub mod Exact
