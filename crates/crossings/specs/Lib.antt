pub mod Crossings
pub mod Nearest
