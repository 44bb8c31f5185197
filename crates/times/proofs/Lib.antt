pub mod After
pub mod GridLaws
pub mod Later
pub mod Leading
pub mod Milli
pub mod Order
pub mod Readings
pub mod Written
