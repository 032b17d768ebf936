pub mod ExitCodes
pub mod Script
pub mod Runs
pub mod Outcomes
pub mod InTime
pub mod Rounds
pub mod Places
