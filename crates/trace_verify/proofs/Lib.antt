pub mod Hitless
pub mod Judged
pub mod Lines
pub mod Unsettled
pub mod Rounds
pub mod Whole
