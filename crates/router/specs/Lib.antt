pub mod Text
pub mod Script
pub mod Run
pub mod Carried
pub mod Routing
pub mod Acting
pub mod Taken
