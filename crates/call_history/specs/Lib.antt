pub mod Cause
pub mod Calls
