pub mod Lanes
mod Zeros
