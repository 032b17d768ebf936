pub mod Foretold
pub mod Settled
pub mod Steps
pub mod Rounds
pub mod Taken
pub mod Lines
pub mod Counts
