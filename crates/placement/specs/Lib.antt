pub mod Live
pub mod Placement
pub mod Insertion
pub mod Ready
