pub mod Bytes
pub mod Attributes
pub mod Ways
pub mod Changes
pub mod Views
pub mod Telling
