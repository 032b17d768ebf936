pub mod Explained
pub mod Rounds
pub mod Steps
