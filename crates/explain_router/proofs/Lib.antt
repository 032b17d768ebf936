pub mod Rounds
pub mod Failures
