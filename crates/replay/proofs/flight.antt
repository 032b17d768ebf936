-- The words of the probes that are in flight.
pub mod InFlight
pub mod Flushing
pub mod Searching
pub mod Seeing
pub mod Leftover
pub mod Drains
pub mod Views
mod Depths
