pub mod Times
pub mod Accepted
pub mod All
pub mod Offending
pub mod Falls
pub mod Patterns
