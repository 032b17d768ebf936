pub mod Verify
pub mod Rounds
