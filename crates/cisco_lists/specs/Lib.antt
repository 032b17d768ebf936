pub mod Words
pub mod Names
pub mod Walk
pub mod Sides
pub mod Ports
pub mod Entries
pub mod Telling
pub mod Lines
