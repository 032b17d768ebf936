-- Entries that stand in order, before and after some come or go.
pub mod Settled
pub mod Unchanged
pub mod Entered
pub mod Erased
pub mod Cleared
pub mod Walked
pub mod Inside
