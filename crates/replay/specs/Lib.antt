pub mod Replayed
pub mod Tally
