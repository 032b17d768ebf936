pub mod WholeLines
pub mod FirstActs
pub mod NextLines
pub mod Joined
pub mod Endings
pub mod Exits
pub mod Rounds
pub mod InTime
