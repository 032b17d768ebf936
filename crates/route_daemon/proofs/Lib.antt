pub mod Stopped
pub mod Led
