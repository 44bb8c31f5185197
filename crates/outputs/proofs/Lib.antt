pub mod Accepted
pub mod Answer
pub mod Loop
pub mod Range
