-- What the proof of the square root uses, from whole numbers to values; and, for a reader of the definition, `Whole`, `Enclosed` and `Examples`.
pub mod Whole
pub mod Closest
pub mod Halves
pub mod Value
pub mod Enclosed
pub mod Std
pub mod Examples
