pub mod Changes
pub mod Evens
pub mod Filled
pub mod Flat
pub mod Groups
pub mod Splits
pub mod Spots
