mod Examples
pub mod FirstLines
pub mod Told
mod Scans
pub mod Shifted
mod Buffers
mod Hands
pub mod Pieces
pub mod Texts
pub mod Turns
