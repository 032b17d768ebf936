pub mod Events
pub mod Ranks
pub mod Standings
pub mod Telling
pub mod Laws
