pub mod Handles
pub mod Due
pub mod Ways
pub mod Parts
pub mod Placed
pub mod Restarted
pub mod Asked
