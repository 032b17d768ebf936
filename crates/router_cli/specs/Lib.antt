pub mod OwnTexts
pub mod CommandLine
pub mod Asked
pub mod Promise
