-- A manager that is rebuilt over a device that was stopped in a commit.
pub mod ReadSlots
pub mod ReadStage
pub mod ReadTwin
pub mod ReadRest
pub mod ReadAgain
pub mod Twinned
pub mod Rested
pub mod LeftParts
pub mod PlannedOn
pub mod NoneDue
pub mod GoesOn
pub mod Resumed
pub mod Restarts
pub mod RestartFaults
