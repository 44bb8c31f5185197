pub mod Resets
pub mod Restarts
pub mod Counting
pub mod Prepared
