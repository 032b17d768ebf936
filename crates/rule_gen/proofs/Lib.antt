pub mod Batches
mod Examples
pub mod Left
pub mod Lines
pub mod States
