pub mod Words
pub mod Walk
pub mod Kinds
pub mod Ipv6
pub mod Notations
pub mod Shown
pub mod Commands
pub mod Texts
