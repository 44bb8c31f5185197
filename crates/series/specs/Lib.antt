pub mod Refusals
pub mod Answers
pub mod Rows
pub mod Ordered
pub mod Falls
pub mod Series
