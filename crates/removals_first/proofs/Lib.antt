pub mod Between
pub mod Covered
pub mod FromLowest
pub mod NameSets
pub mod Parted
pub mod TwoParts
pub mod Searches
pub mod Told
