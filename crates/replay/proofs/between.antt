-- A run between two calls, and how each call ends.
pub mod Runs
pub mod Halfway
pub mod InStep
pub mod RouteSets
pub mod Settled
pub mod SettledRoutes
pub mod Joining
pub mod Acts
pub mod SettledActs
pub mod Refusals
pub mod Leaving
pub mod Beginning
pub mod Exits
