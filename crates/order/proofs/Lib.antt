pub mod Sorting
pub mod Keys
pub mod Sorted
