pub mod Lists
pub mod EventWords
pub mod Answering
pub mod Happened
