-- A commit that is turned round.
pub mod Turned
pub mod WayBack
pub mod Passed
pub mod Reverted
pub mod Restored
pub mod Aborted
pub mod Replaced
pub mod Changes
pub mod TakenBack
pub mod Gained
pub mod Noted
pub mod Unmade
