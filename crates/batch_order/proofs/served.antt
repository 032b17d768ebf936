-- What a manager's device answers, and the ranges for which words in flight are current.
pub mod Answered
pub mod Ahead
pub mod Served
pub mod FromRest
pub mod Resting
pub mod Leaves
pub mod Plain
pub mod Beginning
