pub mod ListName
pub mod ChainName
pub mod OwnTexts
pub mod CommandLine
pub mod Jobs
