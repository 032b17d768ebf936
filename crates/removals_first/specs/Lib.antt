pub mod Early
pub mod Tests
