mod Examples
pub mod Blocks
pub mod Multiples
pub mod Pairs
pub mod CoverLevels
pub mod CoverMembers
pub mod CoverSize
pub mod Covers
pub mod CoverBlocks
pub mod CoverPieces
pub mod Powers
pub mod PortRanges
pub mod Prefixes
pub mod CommonKeys
pub mod Ranks
pub mod RuleSets
pub mod Routes
pub mod Routes6
pub mod Parts
mod WordExamples
mod WordBits
mod Lanes
mod WordRest
pub mod Exact
pub mod Masked
pub mod Lookups
pub mod ApartEntries
pub mod Greedy
pub mod FirstLevels
pub mod CoverRest
