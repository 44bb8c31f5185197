pub mod Grid
pub mod Later
pub mod Leading
pub mod Milli
pub mod Readings
pub mod Search
