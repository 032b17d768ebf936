pub mod Followed
pub mod Kinds
pub mod Meant
pub mod Tracked
