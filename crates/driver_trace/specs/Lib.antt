pub mod DriverLines
pub mod Known
pub mod Compared
pub mod Judged
pub mod Told
