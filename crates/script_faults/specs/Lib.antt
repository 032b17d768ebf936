pub mod Troubles
