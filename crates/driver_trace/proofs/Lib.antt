pub mod Leaks
pub mod Yes
pub mod No
pub mod Read
