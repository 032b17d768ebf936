pub mod Whole
pub mod Moments
pub mod Lookups
pub mod Course
pub mod Flights
pub mod Currents
pub mod Twice
mod Examples
pub mod InMemory
