pub mod RollupFns
pub mod Delta
pub mod Seeded
