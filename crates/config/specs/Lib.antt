pub mod Estimate
pub mod Reach
pub mod Settle
