-- A commit that is turned, up to there and over it.
pub mod Anew
pub mod Coming
pub mod Crashed
pub mod Onward
pub mod Over
pub mod RestOnward
pub mod TakenBack
pub mod ToTurn
