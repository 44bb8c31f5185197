pub mod Figures
pub mod Place
