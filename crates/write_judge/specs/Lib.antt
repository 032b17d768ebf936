pub mod Judging
pub mod Events
