pub mod Frames
pub mod Imported
