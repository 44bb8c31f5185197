pub mod Candles
pub mod Ends
pub mod Pairs
