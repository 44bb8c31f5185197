pub mod Bounded
pub mod Distances
pub mod Estimates
pub mod Examples
pub mod Limits
pub mod Reaches
