pub mod Longest
pub mod FromLowest
