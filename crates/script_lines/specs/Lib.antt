pub mod Lines
pub mod Reader
pub mod Memory
pub mod Buffer
pub mod Scan
pub mod Given
