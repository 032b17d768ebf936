pub mod Bits
pub mod Agreed
pub mod Parts
