-- Ids of pieces: spare ones, those in the slots, and how many there are.
pub mod AtIds
pub mod Ids
pub mod Numbered
pub mod Filled
pub mod Placed
pub mod Standing
pub mod Needed
