pub mod RollupFns
pub mod HoltWinters
