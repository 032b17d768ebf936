pub mod Scripts
pub mod Runs
pub mod RuleLists
pub mod AllTheWay
pub mod Promise
pub mod Rounds
