mod Examples
mod OneRoute
pub mod Lookups
pub mod One
pub mod Spans
pub mod Kept
pub mod States
pub mod Shown
pub mod Wider
pub mod WiderInsertions
pub mod Flights
