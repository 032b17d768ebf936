pub mod Made
pub mod Steps
pub mod Boundary
pub mod Noted
