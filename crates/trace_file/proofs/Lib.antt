mod Examples
pub mod Views
pub mod Numbers
pub mod Ipv6Numbers
pub mod Back
pub mod Written
pub mod TraceText
pub mod Utf8
pub mod Limits
pub mod Ipv6Limits
pub mod LineLimits
mod Apart
pub mod EitherVersion
