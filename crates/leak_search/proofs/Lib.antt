pub mod Finding
pub mod TakenIn
pub mod Settling
pub mod Ports
pub mod Clear
pub mod AlikeLists
pub mod KnownWords
