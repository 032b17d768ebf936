pub mod lines
pub mod flight
pub mod making
pub mod between
pub mod course
pub mod crash
pub mod parting
mod Examples
