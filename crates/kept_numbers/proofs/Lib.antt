mod Rising
mod Loops
mod Places
pub mod Lists
mod Olders
pub mod Back
