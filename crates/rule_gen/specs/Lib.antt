pub mod Batches
pub mod Made
pub mod Line
pub mod Rest
