-- The statements' definitions, a file for each claim.
pub mod Agree
pub mod Calls
pub mod Cut
pub mod Piece
pub mod Numbered
pub mod Table
pub mod Requested
pub mod Waits
pub mod Merged
pub mod Quantile
pub mod Marks
