-- The actions of a commit under way, as they are made and told.
pub mod Making
pub mod Deeds
pub mod Holders
pub mod Acting
pub mod Upto
pub mod Stopping
pub mod Wrapped
pub mod Tries
pub mod Reported
