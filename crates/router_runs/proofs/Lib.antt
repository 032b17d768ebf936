pub mod Closings
mod Kind
mod Effects
mod OneMore
mod Decided
mod WholeRun
mod Answers
mod Sets
mod AllTheWay
pub mod HitlessRuns
mod GivenRuns
mod Counts
mod Leaving
mod Sized
mod Exits
