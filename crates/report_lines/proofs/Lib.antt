pub mod Lines
pub mod Handing
