pub mod RollupFns
pub mod Deriv
pub mod Candlestick
pub mod Integrate
pub mod UntilNext
