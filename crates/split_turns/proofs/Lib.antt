pub mod Waits
pub mod Turned
pub mod Drives
