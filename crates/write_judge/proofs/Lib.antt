pub mod Judgement
pub mod Events
pub mod Lookups
pub mod Blocks
