pub mod Meets
pub mod Walks
pub mod Written
pub mod Laws
