pub mod State
pub mod Flight
pub mod View
pub mod Hitless
pub mod Insertion
pub mod Order
