pub mod Passed
pub mod Filled
pub mod Kept
