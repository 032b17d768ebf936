pub mod Blocks
pub mod Counted
pub mod Cuts
pub mod Finding
