pub mod Text
pub mod Told
pub mod Outside
pub mod Named
pub mod Sizes
