pub mod OwnTexts
pub mod CommandLine
pub mod Lines
pub mod Jobs
