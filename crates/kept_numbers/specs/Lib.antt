pub mod Kept
pub mod Numbered
pub mod Older
pub mod Laws
pub mod Written
