pub mod Rows
pub mod Steps
pub mod Eights
pub mod Used
