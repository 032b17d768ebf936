pub mod State
pub mod Flight
pub mod Drains
pub mod Waiting
pub mod Hitless
pub mod Course
pub mod Laws
pub mod Memory
