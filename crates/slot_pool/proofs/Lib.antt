mod Examples
pub mod Finds
pub mod FlatRows
pub mod FreeSlots
pub mod LeastSlots
pub mod Places
pub mod Scan
pub mod Searches
pub mod SlotSums
