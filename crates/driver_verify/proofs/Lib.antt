pub mod Judged
pub mod Lines
pub mod Rounds
pub mod Whole
