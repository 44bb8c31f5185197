pub mod Record
pub mod Index
pub mod Held
