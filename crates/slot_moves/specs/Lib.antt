pub mod Moves
pub mod Cuts
