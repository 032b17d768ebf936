pub mod Import
pub mod Imported
pub mod Rounds
pub mod Writes
