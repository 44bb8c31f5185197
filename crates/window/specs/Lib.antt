pub mod Window
pub mod Tests
pub mod Types
