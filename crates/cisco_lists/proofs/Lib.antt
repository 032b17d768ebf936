pub mod Tests
pub mod PortSteps
pub mod LineSteps
pub mod EntrySteps
pub mod SideSteps
pub mod Outcomes
