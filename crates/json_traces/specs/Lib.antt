pub mod OnDevices
pub mod Traces
pub mod Reported
pub mod Promised
