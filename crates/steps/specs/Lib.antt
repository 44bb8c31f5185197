pub mod Steps
pub mod Choice
pub mod Counters
