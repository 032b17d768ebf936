pub mod Changes
mod Examples
pub mod FieldMaps
pub mod Given
pub mod Newer
pub mod Places
pub mod Words
