mod Examples
mod Examples6
pub mod Digits
pub mod Parts
pub mod Walk
pub mod Separators
pub mod HostBits
pub mod Mapped
pub mod Ranges
pub mod Colons
pub mod Groups
pub mod JoinedParts
pub mod Shown
pub mod Longest
pub mod RoundTrip
