pub mod Eval
pub mod Choice
