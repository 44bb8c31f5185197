pub mod Indexes
pub mod Asked
pub mod Closest
pub mod Distances
