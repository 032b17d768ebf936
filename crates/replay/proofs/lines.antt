-- Lines, and what is told by them.
pub mod Telling
pub mod Written
pub mod Effects
pub mod Opened
