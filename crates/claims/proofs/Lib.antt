pub mod Prepared
pub mod Records
pub mod Calls
pub mod Cut
pub mod Piece
pub mod Stretches
pub mod Numbered
pub mod Table
pub mod Requested
pub mod Waits
pub mod Merged
pub mod Quantile
mod Examples
pub mod Marks
pub mod Unmarked
