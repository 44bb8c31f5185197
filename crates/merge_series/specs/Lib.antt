pub mod Merge
pub mod Turns
pub mod Call
