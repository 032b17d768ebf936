pub mod LookUps
pub mod Turns
pub mod Seen
