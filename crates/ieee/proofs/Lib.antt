-- Laws that several proofs cite, here and in the crates above.
pub mod Tests
pub mod Patterns
pub mod Exact
pub mod Numbers
pub mod Rank
pub mod Units
pub mod Unrounded
pub mod Differences
pub mod Order
pub mod Whole
pub mod Floors
pub mod Floats
pub mod Folding
pub mod Filling
mod Examples
