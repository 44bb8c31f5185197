pub mod Exported
pub mod Prepare
pub mod Settle
pub mod Runs
pub mod Readings
