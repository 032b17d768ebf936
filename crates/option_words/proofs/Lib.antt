pub mod ArgumentRows
pub mod TakenRows
pub mod Defaults
pub mod ClearFaults
mod Numbers
mod Texts
