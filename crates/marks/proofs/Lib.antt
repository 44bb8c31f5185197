pub mod Remaining
pub mod Rows
pub mod Taken
