mod CommandLines
pub mod NumbersTaken
mod Words
mod Ipv6Lines
mod TracedLines
mod TracedWords
pub mod ToldLines
mod Kind
pub mod OneMore
pub mod TwoParts
pub mod PartedWrites
mod CutActs
mod ShortLines
mod Decided
mod Outcomes
mod MadeRuns
mod FaultCounts
mod Exits
mod WholeRun
mod TopCall
mod Closings
mod Begun
mod Corners
mod Examples
mod Wrong
mod Padded
mod LedSets
mod AllTheWay
mod CutCrash
mod Checks
mod HitlessRuns
mod CheckRuns
mod SetExamples
mod GivenRuns
mod InTime
mod GivenExamples
